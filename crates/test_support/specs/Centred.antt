-- The distance of a count from the centre of its slot, and that it keeps the laws.
use Rattle.std.specs.Prelude.{ℕ, ◌+◌, ◌-◌, List, min, slice_index}
use Rattle.std.proofs.Common.{arith}
use Rattle.penalty.specs.Bottoms.{PlainValley}
use Rattle.penalty.specs.Cost.{Capped, Cost, bottom, inside, top}
use Rattle.penalty.specs.Rising.{either_most}

-- the distance of count x from the centre of slot k, at most TOP
abbrev pub distance : List ℕ → ℕ → ℕ → ℕ → ℕ → ℕ
distance centres S d x k = min ((x - slice_index centres k) + (slice_index centres k - x)) top

-- the cost on the domain and outside it
abbrev pub centred : List ℕ → Cost
centred centres = bottom (distance centres)

-- it is not above the forbidden cost
pub distance_capped : (centres : List ℕ) → Capped (centred centres)
distance_capped centres S c d x k = either_most (inside S c d x k) {a = distance centres S d x k} {b = top} (omega arith) (omega arith)

-- and keeps the valley law
pub distance_valley : (centres : List ℕ) → PlainValley (distance centres)
distance_valley centres S d k u v w h l = omega arith
