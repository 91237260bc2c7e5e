-- The bottom over an owner's own table: two rows of costs by step, one where q is not below zero, one where it is.
use Rattle.std.specs.Prelude.{◌≡◌, ℕ, ◌<◌, ◌^◌, All, List, length, slice_index}
use Rattle.std.specs.List.Sorted.{IsNonDecreasing}
use Rattle.penalty.specs.Cost.{Cost, bottom}
use Rattle.penalty.specs.TwoSided.{scaled}

-- a row of an own table: 256 numbers of 32 bits, of which the first is 0 and none is below the one before it
pub record IsRow (row : List ℕ) : Type 0 where
  pub long : length row ≡ 256
  pub first : slice_index row 0 ≡ 0
  pub rising : IsNonDecreasing row
  pub small : All (λ n. n < 2 ^ 32) row

-- the cost of an own table: where q is below zero that of its step in the row behind, and else that in the row ahead
abbrev pub owned : List ℕ → List ℕ → Cost
owned ahead behind = bottom (scaled (slice_index behind) (slice_index ahead))
