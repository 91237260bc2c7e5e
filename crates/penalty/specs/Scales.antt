-- The laws of a bottom with two scales over the step, from those of its scales.
use Rattle.std.proofs.Common.{ℕ, ◌*◌, ◌<◌, ◌≤◌, ltb, ⊎_elim, le_refl, mul-le-mul_left, arith}
use Rattle.std.proofs.lemmas.Bool.{cases_lt, lt-ltb, le-ltb}
use Rattle.penalty.specs.Cost.{top, inside, bottom, Capped, Valley}
use Rattle.penalty.specs.Deviation.{size}
use Rattle.penalty.specs.TwoSided.{step, scaled}
use Rattle.penalty.specs.Bottoms.{PlainValley, bottom_valley}
use Rattle.penalty.specs.Rising.{Rising, either_most, quotient_rising}

-- a scale of costs by step: up to step 255 it never falls, and there it is not above the forbidden cost
pub record IsScale (m : ℕ → ℕ) : Type 0 where
  pub rising : (s t : ℕ) → s ≤ t → t ≤ 255 → m s ≤ m t
  pub last : m 255 ≤ top

-- a q of greater size has no smaller step
step_rising : (S : ℕ) → Rising (step S)
step_rising S a b h = let q = quotient_rising S (8 * a) (8 * b) (mul-le-mul_left 8 h) in omega (arith, q)

-- no step is above 255
step_most : (S n : ℕ) → step S n ≤ 255
step_most S n = omega arith

-- no cost of a scale is above the forbidden one, up to step 255
pub scale_most : {m : ℕ → ℕ} → IsScale m → (s : ℕ) → s ≤ 255 → m s ≤ top
scale_most k s most = let rises = k.rising s 255 most (le_refl 255) in omega (arith, rises, k.last)

module _ (low high : ℕ → ℕ) where
  -- no cost is above the forbidden one, where up to step 255 no cost of either scale is
  pub scaled_capped : ((s : ℕ) → s ≤ 255 → low s ≤ top) → ((s : ℕ) → s ≤ 255 → high s ≤ top) → Capped (bottom (scaled low high))
  scaled_capped l h S c d x k =
      let s = step S (size S d x k) in
      let most : s ≤ 255 = omega arith in
      either_most (inside S c d x k) (either_most (ltb (S * x) (k * d)) (l s most) (h s most)) (le_refl top)

  -- two scales that never fall up to step 255 keep the valley law: where q is below zero the smaller count costs no less, elsewhere the greater
  plain_valley : ((s t : ℕ) → s ≤ t → t ≤ 255 → low s ≤ low t) → ((s t : ℕ) → s ≤ t → t ≤ 255 → high s ≤ high t) → PlainValley (scaled low high)
  plain_valley l h S d k u v w below above =
      let left : S * u ≤ S * v = mul-le-mul_left S below in
      let right : S * v ≤ S * w = mul-le-mul_left S above in
      ⊎_elim
      (λ (b : S * v < k * d).
      let s = l _ _ (step_rising S (size S d v k) (size S d u k) (omega (arith, b, left))) (step_most S (size S d u k)) in
      rw (lt-ltb (S * v) (k * d) b, lt-ltb (S * u) (k * d) (omega (arith, b, left))) (omega (arith, s)))
      (λ (a : k * d ≤ S * v).
      let s = h _ _ (step_rising S (size S d v k) (size S d w k) (omega (arith, a, right))) (step_most S (size S d w k)) in
      rw (le-ltb (S * v) (k * d) a, le-ltb (S * w) (k * d) (omega (arith, a, right))) (omega (arith, s)))
      (cases_lt (S * v) (k * d))

-- so the bottom over two scales keeps it
pub scaled_valley : {low high : ℕ → ℕ} → IsScale low → IsScale high → Valley (bottom (scaled low high))
scaled_valley {low} {high} l h =
    bottom_valley (scaled low high) (scaled_capped low high (scale_most l) (scale_most h)) (plain_valley low high l.rising h.rising)
