-- Tests over the numbers below a number, that the checker computes.
use Rattle.std.proofs.Common.{◌≡◌, ℕ, zero, suc, ◌<◌, Bool, true, false, ◌||◌, sym, subst, ⊎_elim, arith}
use Rattle.std.proofs.lemmas.Bool.{agree_below, agree_below_at, cases_eq, false≢true, or_cases, or_parts}

-- whether p passes every number below n
abbrev pub all_below : (ℕ → Bool) → ℕ → Bool
all_below p n = agree_below p (λ _. true) n

-- whether p passes some number below n
abbrev pub any_below : (ℕ → Bool) → ℕ → Bool
any_below p zero = false
any_below p (suc n) = p n || any_below p n

module _ (p : ℕ → Bool) where
  -- what passes every number passes each
  pub each_below : (n : ℕ) → all_below p n ≡ true → (k : ℕ) → k < n → p k ≡ true
  each_below n t k h = agree_below_at p (λ _. true) n k t h

  -- what passes some number has one that it passes
  pub one_below : (n : ℕ) → any_below p n ≡ true → (k : ℕ) × (k < n) × (p k ≡ true)
  one_below zero t = absurd (false≢true t)
  one_below (suc n) t =
      ⊎_elim
      (λ here. (n, omega arith, here))
      (λ below. let found = one_below n below in (found.0, omega (arith, found.1), found.2))
      (or_cases (p n) (any_below p n) t)

  -- and what passes none does not pass any
  pub none_below : (n : ℕ) → any_below p n ≡ false → (k : ℕ) → k < n → p k ≡ false
  none_below zero t k h = absurd (omega (arith, h))
  none_below (suc n) t k h =
      let parts = or_parts (p n) (any_below p n) t in
      ⊎_elim (λ same. subst (λ i. p i ≡ false) (sym same) parts.0) (λ other. none_below n parts.1 k (omega arith)) (cases_eq k n)
