-- Text in memory, as lists of bytes.
use Rattle.std.specs.Prelude.{◌≡◌, ℕ, ◌+◌, ◌<◌, ◌≤◌, List, ◌++◌, length, take, drop, decimal, Result, Ok, Err}
use Rattle.lines.specs.declared.refusal.ShortMemory.{ShortMemory}

-- text stands at the start of the memory, n is its length, and what stood after it is as it was
pub record Written (text old new : List ℕ) (n : ℕ) : Type 0 where
  pub long : n ≡ length text
  pub fits : n ≤ length new
  pub line : take n new ≡ text
  pub rest : drop n new ≡ drop n old

-- text stands in the memory from place `at` to `next`; what stood before and after it is as it was
pub record Put (old : List ℕ) (at : ℕ) (text new : List ℕ) (next : ℕ) : Type 0 where
  pub stops : next ≡ at + length text
  pub front : take next new ≡ take at old ++ text
  pub rest : drop next new ≡ drop next old

-- text is written at the start of the memory; or the memory has fewer than 96 bytes, and it is as it was
abbrev pub MayWrite : List ℕ → List ℕ → List ℕ → Result ℕ ShortMemory → Type 0
MayWrite text old new (Ok n) = (96 ≤ length old) × Written text old new n
MayWrite text old new (Err _) = (length old < 96) × (new ≡ old)

-- a word and the decimal digits of a number
abbrev pub field : List ℕ → ℕ → List ℕ
field word n = word ++ decimal n
