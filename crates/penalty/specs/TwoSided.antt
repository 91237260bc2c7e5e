-- The two-sided bottom: the size of q in steps, and a scale of costs for each of its two sides.
use Rattle.std.specs.Prelude.{◌≡◌, ℕ, zero, suc, ◌*◌, ◌/◌, ◌<◌, ◌≤◌, min, Bool, cond, List, length, nat_le, nat_lt, slice_index}
use Rattle.penalty.specs.Cost.{Cost, bottom}
use Rattle.penalty.specs.Deviation.{size}

-- the largest number from 1 to n that passes p, 0 where none does
unfoldable pub largest : (ℕ → Bool) → ℕ → ℕ
largest p zero = 0
largest p (suc n) = cond (p (suc n)) (suc n) (largest p n)

-- number s of the root table: the largest whole v with v·v ≤ 1000·s
unfoldable pub root : ℕ → ℕ
root s = largest (λ v. nat_le (v * v) (1000 * s)) (1000 * s)

-- the root table: 256 numbers, each the root of its place, none below the one before it
pub record RootTable (table : List ℕ) : Type 0 where
  pub long : length table ≡ 256
  pub rule : (s : ℕ) → s < 256 → slice_index table s ≡ root s
  pub rising : (s t : ℕ) → s ≤ t → t < 256 → slice_index table s ≤ slice_index table t

-- the step of a q of size n: how many whole eighths of a reading it is, but at most 255
abbrev pub step : ℕ → ℕ → ℕ
step S n = min 255 ((8 * n) / S)

-- two scales over the step: one where q is below zero, one where it is not
abbrev pub scaled : (ℕ → ℕ) → (ℕ → ℕ) → ℕ → ℕ → ℕ → ℕ → ℕ
scaled low high S d x k = cond (nat_lt (S * x) (k * d)) (low (step S (size S d x k))) (high (step S (size S d x k)))

-- the scale of the two-sided bottom where q is below zero
abbrev pub forty : ℕ → ℕ
forty s = 40 * s

-- the cost of the two-sided bottom
abbrev pub two_sided : Cost
two_sided = bottom (scaled forty root)
