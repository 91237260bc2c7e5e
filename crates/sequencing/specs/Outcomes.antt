-- What is true of every outcome of best.
use Rattle.std.specs.Prelude.{◌<◌, ⊤}
use Rattle.std.specs.Coded.{le_prop, Unit-prop}
use Rattle.penalty.specs.Cost.{top}
use Rattle.sequencing.specs.declared.answer.Outcome.{Outcome}
use Rattle.sequencing.specs.declared.answer.Outcome.TheVariants.{Least, NoLeast}

-- the least, where there is one, is below the forbidden cost
abbrev pub IsBelowTop : Outcome → Type 0
IsBelowTop (Least n below) = n < top
IsBelowTop (NoLeast block) = ⊤

-- this has one proof at most
pub IsBelowTop-prop : (outcome : Outcome) → IsProp (IsBelowTop outcome)
IsBelowTop-prop (Least n below) = le_prop
IsBelowTop-prop (NoLeast block) = Unit-prop
