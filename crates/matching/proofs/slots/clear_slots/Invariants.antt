-- The records so far have no slot, the others are as they were.
use Rattle.std.proofs.Common.{◌≡◌, ◌++◌, map, take, drop}
use Rattle.matching.specs.Windows.{bare}
use Rattle.matching.proofs.slots.clear_slots.Given as goal

abbrev pub invariant-loop-window : goal.invariant-loop-window
invariant-loop-window l = l.windows ≡ map bare (take l.window-index l.initial.windows) ++ drop l.window-index l.initial.windows
