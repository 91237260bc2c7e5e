-- The channels so far are admitted.
use Rattle.std.proofs.Common.{◌≡◌}
use Rattle.matching.specs.Rounds.{AdmitsBelow, Keeps, Lent}
use Rattle.matching.proofs.round.Round.admit.Given as goal

abbrev pub invariant-loop-channel : goal.invariant-loop-channel
invariant-loop-channel l =
    AdmitsBelow l.initial.self l.initial.ready l.self l.ready l.slot l.channel
    × (l.self.windows.now ≡ l.initial.self.windows.now)
    × Keeps l.initial.self l.initial.ready l.self l.ready
    × Lent l.initial.self l.initial.ready l.self l.ready
