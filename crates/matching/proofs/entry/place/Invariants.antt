-- The first slots are filled.
use Rattle.matching.specs.Rounds.{IsFilled, Keeps, Lent}
use Rattle.matching.proofs.entry.place.Given as goal

abbrev pub invariant-loop-filled : goal.invariant-loop-filled
invariant-loop-filled l =
    IsFilled l.round l.heap l.filled × Keeps l.initial.round l.initial.heap l.round l.heap × Lent l.initial.round l.initial.heap l.round l.heap
