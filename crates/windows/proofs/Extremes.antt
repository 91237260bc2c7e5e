-- The least and the greatest number of which something holds: there is one at most, and one where it can be decided.
use Rattle.std.proofs.Common.{◌≡◌, ℕ, zero, suc, ◌<◌, ◌≤◌, ◌⊎◌, inl, inr, subst, ⊎_elim, arith}
use Rattle.std.proofs.lemmas.Bool.{cases_lt}
use Rattle.windows.specs.Extremes.{IsGreatest, IsLeast}

-- P can be decided at every number
abbrev pub Decided : (ℕ → Type 0) → Type 0
Decided P = (n : ℕ) → P n ⊎ (P n → ⊥)

module _ (P : ℕ → Type 0) where
  -- there is one least number at most
  pub least_same : (m n : ℕ) → IsLeast P m → IsLeast P n → m ≡ n
  least_same m n a b = omega (arith, a.least n b.holds, b.least m a.holds)

  -- and one greatest
  pub greatest_same : (m n : ℕ) → IsGreatest P m → IsGreatest P n → m ≡ n
  greatest_same m n a b = omega (arith, a.greatest n b.holds, b.greatest m a.holds)

  -- what does not hold at n holds at no m up to n where it holds below n of none
  none_upto : (n : ℕ) → ((m : ℕ) → m < n → P m → ⊥) → (P n → ⊥) → (m : ℕ) → m ≤ n → P m → ⊥
  none_upto n below not m h p =
      ⊎_elim (λ less. below m less p) (λ ge. not (subst P (omega arith) p)) (cases_lt m n)

  module _ (decided : Decided P) where
    -- below n there is the least number, or none
    pub least_below : (n : ℕ) → ((m : ℕ) × IsLeast P m) ⊎ ((m : ℕ) → m < n → P m → ⊥)
    least_below zero = inr (λ m h p. omega arith)
    least_below (suc n) =
        ⊎_elim inl
        (λ none.
        ⊎_elim
        (λ p. inl (n, record { holds = p; least = λ m q. ⊎_elim (λ less. absurd (none m less q)) (λ ge. ge) (cases_lt m n) }))
        (λ not. inr (λ m h. none_upto n none not m (omega arith)))
        (decided n))
        (least_below n)

    -- so below n there is a number of which it holds, or none
    pub find_below : (n : ℕ) → ((m : ℕ) × P m) ⊎ ((m : ℕ) → m < n → P m → ⊥)
    find_below n = ⊎_elim (λ found. inl (found.0, found.1.holds)) inr (least_below n)

    -- where it holds at n, there is a least number
    pub least_exists : (n : ℕ) → P n → (m : ℕ) × IsLeast P m
    least_exists n p = ⊎_elim (λ found. found) (λ none. absurd (none n (omega arith) p)) (least_below (suc n))

    -- where it holds above no number m, there is a greatest number, or none
    pub greatest_or_none : (m : ℕ) → ((n : ℕ) → P n → n ≤ m) → ((n : ℕ) × IsGreatest P n) ⊎ ((n : ℕ) → P n → ⊥)
    greatest_or_none zero upto =
        ⊎_elim
        (λ p. inl (0, record { holds = p; greatest = upto }))
        (λ not. inr (λ n p. not (subst P (omega (arith, upto n p)) p)))
        (decided 0)
    greatest_or_none (suc m) upto =
        ⊎_elim
        (λ p. inl (suc m, record { holds = p; greatest = upto }))
        (λ not.
        greatest_or_none m
        (λ n p. ⊎_elim (λ less. omega arith) (λ ge. absurd (not (subst P (omega (arith, upto n p)) p))) (cases_lt n (suc m))))
        (decided (suc m))
