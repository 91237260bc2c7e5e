-- The channel numbers so far stand as often as the table says.
use Rattle.std.proofs.Common.{◌≡◌, ℕ, ◌<◌, sum}
use Rattle.round.specs.Lists.{count, readings}
use Rattle.bruteforce.proofs.comparison.has_each.Given as goal

abbrev pub invariant-loop-channel : goal.invariant-loop-channel
invariant-loop-channel l = (c : ℕ) → c < l.channel → count l.list c (sum l.readings.by_channel) ≡ readings l.readings.by_channel c
