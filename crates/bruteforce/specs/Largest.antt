-- The largest value over some pairs.
use Rattle.std.specs.Prelude.{◌≡◌, ℕ, ◌≤◌, ◌⊎◌}

-- n is the largest value of g over the pairs in M, 0 where there are none
pub record LargestOver (g : ℕ → ℕ → ℕ) (M : ℕ → ℕ → Type 0) (n : ℕ) : Type 0 where
  pub within : (k c : ℕ) → M k c → g k c ≤ n
  pub attained : (n ≡ 0) ⊎ ((k : ℕ) × (c : ℕ) × M k c × (g k c ≡ n))
