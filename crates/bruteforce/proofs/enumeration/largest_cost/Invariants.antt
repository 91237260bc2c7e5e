-- The largest cost of the slots so far.
use Rattle.std.proofs.Common.{◌<◌}
use Rattle.round.specs.Lists.{Channel, cost_at}
use Rattle.bruteforce.specs.Largest.{LargestOver}
use Rattle.bruteforce.proofs.enumeration.largest_cost.Given as goal

abbrev pub invariant-loop-slot : goal.invariant-loop-slot
invariant-loop-slot g l = LargestOver (cost_at (g.P.Penalty.cost l.penalty) l.readings.by_channel l.list) (λ k c. (k < l.slot) × Channel l.readings.by_channel c) l.largest
