-- The windows before this one are written.
use Rattle.sequencing.proofs.Writing.{WrittenTo}
use Rattle.sequencing.proofs.sequence.write_list.Given as goal

abbrev pub invariant-loop-window : goal.invariant-loop-window
invariant-loop-window l = WrittenTo l.windows l.initial.list l.window-index l.list
