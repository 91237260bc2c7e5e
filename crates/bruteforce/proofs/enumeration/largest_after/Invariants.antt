-- The largest cost of the channels so far.
use Rattle.std.proofs.Common.{◌≡◌, ◌<◌}
use Rattle.round.specs.Lists.{Channel, cost_at}
use Rattle.bruteforce.specs.Largest.{LargestOver}
use Rattle.bruteforce.proofs.enumeration.largest_after.Given as goal

abbrev pub invariant-loop-channel : goal.invariant-loop-channel
invariant-loop-channel g l = LargestOver (cost_at (g.P.Penalty.cost l.penalty) l.readings.by_channel l.list) (λ k c. (k ≡ l.slot) × Channel l.readings.by_channel c × (c < l.channel)) l.largest
