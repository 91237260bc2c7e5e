-- The numbers of the refusals.
use Rattle.std.specs.Prelude.{ℕ}
use Rattle.quotes.specs.declared.refusal.Refusal.{Refusal}
use Rattle.quotes.specs.declared.refusal.Refusal.TheVariants.{ShortMemory, SerialOutOfRange, NoLeast}

-- the number of a refusal
abbrev pub number : Refusal → ℕ
number ShortMemory = 18
number SerialOutOfRange = 19
number NoLeast = 20
