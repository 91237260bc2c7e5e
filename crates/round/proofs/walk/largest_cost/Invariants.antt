-- What is walked over, the counts so far, and what was found up to the last slot.
use Rattle.std.proofs.Common.{◌≡◌, ◌+◌, length}
use Rattle.round.specs.Walk.{Counted, Found, Past}
use Rattle.round.specs.Lists.{cost_at}
use Rattle.round.proofs.walk.largest_cost.Given as goal

abbrev pub invariant-loop-i : goal.invariant-loop-i
invariant-loop-i g l =
    (l.walk.penalty.now ≡ l.penalty)
    × (l.walk.readings.now ≡ l.readings)
    × (length l.walk.counts ≡ 64)
    × Counted l.walk.counts l.list l.i
    × Found (cost_at (g.P.Penalty.cost l.penalty) l.readings.by_channel l.list) (Past l.readings.by_channel (l.i + 1) 0) l.found
