-- The elements are those of the start in some order, a heap but for the one that goes down.
use Rattle.std.proofs.Common.{◌-◌, ◌≤◌, length, get_or}
use Rattle.heap.specs.Heaps.{Rearranged}
use Rattle.heap.proofs.Sifts.{Downward}
use Rattle.heap.proofs.sift.sift_down.Given as goal

abbrev pub invariant-loop-at : goal.invariant-loop-at
invariant-loop-at g l =
    (l.len ≤ length l.items)
    × Rearranged l.len l.initial.items l.items
    × ((d : g.row.T.Denot) → Downward g.T.Ordered.leq (λ k. get_or l.items k d) l.«at» l.len)

abbrev pub decreases-loop-at : goal.decreases-loop-at
decreases-loop-at g l = l.len - l.«at»
