-- What is walked over, the counts so far, and that the heap was offered the moments up to the last slot.
use Rattle.std.proofs.Common.{◌≡◌, ◌+◌, length, take}
use Rattle.heap.specs.Heaps.{AreLast}
use Rattle.round.specs.Dearest.{no_dearer, moments_to}
use Rattle.round.specs.Walk.{Counted}
use Rattle.round.proofs.dearest.offer_moments.Given as goal

abbrev pub invariant-loop-i : goal.invariant-loop-i
invariant-loop-i g l =
    (l.walk.penalty.now ≡ l.penalty)
    × (l.walk.readings.now ≡ l.readings)
    × (length l.walk.counts ≡ 64)
    × Counted l.walk.counts l.list l.i
    × (l.heap.items.ghost_name ≡ l.fn.heap.items.ghost_name)
    × (length l.heap.items.now ≡ length l.fn.heap.items.now)
    × AreLast no_dearer (moments_to (g.P.Penalty.cost l.penalty) l.readings.by_channel l.list (l.i + 1))
    (length l.fn.heap.items.now) (take l.heap.len l.heap.items.now)
