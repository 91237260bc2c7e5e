-- The input of the audit: 128 bytes of readings, two for each channel number with the high byte first, then the list.
use Rattle.std.specs.Prelude.{ℕ, ◌+◌, ◌*◌, List, [], ◌∷◌, take, drop}

-- the numbers that pairs of bytes make, the high byte first; a byte without a second one makes none
abbrev pub numbers : List ℕ → List ℕ
numbers [] = []
numbers (high ∷ []) = []
numbers (high ∷ (low ∷ rest)) = (256 * high + low) ∷ numbers rest

-- the row of an input
abbrev pub row_of : List ℕ → List ℕ
row_of input = numbers (take 128 input)

-- the list of an input
abbrev pub list_of : List ℕ → List ℕ
list_of input = drop 128 input
