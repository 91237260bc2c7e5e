-- The laws of the bottom over an owner's own table, from those of its rows as scales.
use Rattle.std.specs.Prelude.{ℕ, List, slice_index}
use Rattle.std.proofs.Common.{arith}
use Rattle.penalty.specs.Cost.{Capped, Valley}
use Rattle.penalty.specs.OwnTable.{IsRow, owned}
use Rattle.penalty.specs.Scales.{IsScale, scale_most, scaled_capped, scaled_valley}

-- a row is a scale
row_scale : {row : List ℕ} → IsRow row → IsScale (slice_index row)
row_scale {row} is = record {
  rising = λ s t h most. is.rising s t 0 h (omega (arith, is.long, most));
  last = let n = is.small 255 0 (omega (arith, is.long)) in omega (arith, n);
}

module _ {ahead behind : List ℕ} (a : IsRow ahead) (b : IsRow behind) where
  -- no cost of an own table is above the forbidden one
  pub owned_capped : Capped (owned ahead behind)
  owned_capped = scaled_capped (slice_index behind) (slice_index ahead) (scale_most (row_scale b)) (scale_most (row_scale a))

  -- an own table keeps the valley law
  pub owned_valley : Valley (owned ahead behind)
  owned_valley = scaled_valley (row_scale b) (row_scale a)
