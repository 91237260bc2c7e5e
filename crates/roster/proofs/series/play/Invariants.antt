-- The calls before this one are made.
use Rattle.std.proofs.Common.{◌≡◌}
use Rattle.sequencing.specs.Memory.{memory}
use Rattle.roster.proofs.Playing.{PlayedTo}
use Rattle.roster.proofs.series.play.Given as goal

abbrev pub invariant-loop-i : goal.invariant-loop-i
invariant-loop-i g l =
    PlayedTo (g.P.Penalty.cost l.fn.penalty) l.calls l.fn.replies l.replies (memory l.fn.windows l.fn.ready l.fn.list) (memory l.windows l.ready l.list)
    l.roster.readings.by_channel l.i l.start
    × (l.roster.penalty ≡ l.fn.penalty)
