-- What the search for the least bound finds. These definitions serve the proofs only.
use Rattle.std.specs.Prelude.{ℕ, ◌-◌, ◌<◌, List}
use Rattle.penalty.specs.Cost.{Cost, top}
use Rattle.round.specs.Lists.{Complete, LargestCost}
use Rattle.sequencing.specs.Answers.{IsBelow}
use Rattle.sequencing.specs.Sequences.{IsBlock}
use Rattle.sequencing.specs.declared.answer.Outcome.{Outcome}
use Rattle.sequencing.specs.declared.answer.Outcome.TheVariants.{Least, NoLeast}

-- some complete list has the largest cost n
abbrev pub HasLargest : Cost → List ℕ → ℕ → Type 0
HasLargest f t n = (l : List ℕ) × Complete t l × LargestCost f t l n

-- what the search finds
abbrev pub Searched : Cost → List ℕ → Outcome → Type 0
Searched f t (Least n block) = (n < top) × HasLargest f t n × IsBelow f t n block
Searched f t (NoLeast block) = IsBlock f t (top - 1) block
