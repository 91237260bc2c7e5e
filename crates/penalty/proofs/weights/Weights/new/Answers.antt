-- No weight of a new table is above 1,000.
use Rattle.std.proofs.Common.{◌≤◌, arith}
use Rattle.std.proofs.lemmas.List.Elements.{All-replicate}
use Rattle.penalty.proofs.weights.Weights.new.Goals as goal

pub invariant_of-result-clause-within : goal.invariant_of-result-clause-within
invariant_of-result-clause-within c = All-replicate (λ w. w ≤ 1000) 64 1 (omega arith)
