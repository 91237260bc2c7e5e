-- The counts so far, and channels only so far.
use Rattle.std.proofs.Common.{◌≡◌, ℕ, ◌<◌, length, get_or}
use Rattle.round.specs.Lists.{Channel}
use Rattle.round.specs.Walk.{Counted}
use Rattle.round.proofs.readings.Readings.tally.Given as goal

abbrev pub invariant-loop-i : goal.invariant-loop-i
invariant-loop-i l =
    (length l.counts ≡ 64)
    × Counted l.counts l.list l.i
    × ((j : ℕ) → j < l.i → Channel l.self.by_channel (get_or l.list j 0))
