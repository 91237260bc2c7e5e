-- The laws of the two-sided bottom, from those of its two scales.
use Rattle.std.proofs.Common.{mul-le-mul_left, arith}
use Rattle.penalty.specs.Cost.{Capped, Valley}
use Rattle.penalty.specs.Scales.{IsScale, scale_most, scaled_capped, scaled_valley}
use Rattle.penalty.specs.Squares.{root_rising, root_small}
use Rattle.penalty.specs.TwoSided.{forty, root, two_sided}

-- 40 for each step is a scale
forty_scale : IsScale forty
forty_scale = record { rising = λ s t h _. mul-le-mul_left 40 h; last = omega arith }

-- so are the roots
root_scale : IsScale root
root_scale = record { rising = λ s t h _. root_rising s t h; last = let r = root_small 255 in omega arith }

-- no cost of the two-sided bottom is above the forbidden one
pub two_sided_capped : Capped two_sided
two_sided_capped = scaled_capped forty root (scale_most forty_scale) (scale_most root_scale)

-- the two-sided bottom keeps the valley law
pub two_sided_valley : Valley two_sided
two_sided_valley = scaled_valley forty_scale root_scale
