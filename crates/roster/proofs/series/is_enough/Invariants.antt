-- What is left after the calls before this one.
use Rattle.roster.proofs.Rooms.{LeftOver}
use Rattle.roster.proofs.series.is_enough.Given as goal

abbrev pub invariant-loop-call : goal.invariant-loop-call
invariant-loop-call l = LeftOver l.calls l.fn.room l.call-index l.left
