-- The elements are those of the start in some order, a heap but for the one that goes up.
use Rattle.std.proofs.Common.{◌+◌, ◌<◌, ◌≤◌, length, get_or}
use Rattle.heap.specs.Heaps.{Rearranged}
use Rattle.heap.proofs.Sifts.{Upward}
use Rattle.heap.proofs.sift.sift_up.Given as goal

abbrev pub invariant-loop-at : goal.invariant-loop-at
invariant-loop-at g l =
    (l.«at» ≤ l.start)
    × (l.start < length l.items)
    × Rearranged (l.start + 1) l.initial.items l.items
    × ((d : g.row.T.Denot) → Upward g.T.Ordered.leq (λ k. get_or l.items k d) l.«at» (l.start + 1))

abbrev pub decreases-loop-at : goal.decreases-loop-at
decreases-loop-at g l = l.«at»
