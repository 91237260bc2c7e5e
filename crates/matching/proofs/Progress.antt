-- Placing readings slot after slot by Glover's rule, over plain functions.
use Rattle.std.proofs.Common.{◌≡◌, ℕ, ◌+◌, ◌-◌, ◌<◌, ◌≤◌, ◌⊎◌, ap, ◌∙◌, inl, inr, ⊎_elim, arith}
use Rattle.std.proofs.lemmas.Bool.{cases_eq, cases_lt}
use Rattle.matching.specs.Matchings.{Due}
use Rattle.matching.specs.States.{Progress}

-- before the first slot no reading is placed
pub progress_none : (n : ℕ) (e l s : ℕ → ℕ) → ((i : ℕ) → i < n → s i ≡ 0) → Progress n e l s 0
progress_none n e l s none = record {
  inside = λ i h placed. absurd (omega (arith, none i h));
  filled = λ k from to. absurd (omega arith);
  apart = λ i j h k placed same. absurd (omega (arith, none i h));
  soonest = λ i j h k placed later opens. absurd (omega (arith, none i h));
}

-- one slot more, which reading i takes
module _ (n : ℕ) (e l s r : ℕ → ℕ) (t i : ℕ) (p : Progress n e l s t) (h : i < n) (unplaced : s i ≡ 0)
    (come : e i ≤ t + 1) (still : t + 1 ≤ l i)
    (first : (j : ℕ) → j < n → s j ≡ 0 → (j ≡ i → ⊥) → e j ≤ t + 1 → Due l i j)
    (now : r i ≡ t + 1) (kept : (k : ℕ) → (k ≡ i → ⊥) → r k ≡ s k) where
  -- a reading is i, in slot t + 1, or another, whose slot is as it was and is up to t
  split : (j : ℕ) → j < n → ((j ≡ i) × (r j ≡ t + 1)) ⊎ ((j ≡ i → ⊥) × (r j ≡ s j) × (s j ≤ t))
  split j g =
      ⊎_elim
      (λ same. inl (same, ap r same ∙ now))
      (λ other.
      let within = ⊎_elim (λ placed. (p.inside j g placed).2) (λ none. omega arith) (cases_lt 0 (s j)) in
      inr (other, kept j other, within))
      (cases_eq j i)

  -- where i is the soonest of the readings that may take slot t + 1, the progress is one slot more
  pub progress_more : Progress n e l r (t + 1)
  progress_more = record {
    inside = λ j g placed.
        ⊎_elim
        (λ here. rw here.0 (omega arith, omega arith, omega arith))
        (λ old. let was = p.inside j g (omega arith) in (omega arith, omega arith, omega arith))
        (split j g);
    filled = λ k from to.
        ⊎_elim
        (λ below.
        let old = p.filled k from (omega arith) in
        (old.0, old.1, kept old.0 (λ same. let none = ap s same in omega arith) ∙ old.2))
        (λ last. (i, h, omega arith))
        (cases_lt k (t + 1));
    apart = λ j k g f placed same.
        let a = split j g in
        let b = split k f in
        let old = p.apart j k g f in
        grind arith;
    soonest = λ j k g f placed later opens.
        ⊎_elim
        (λ here.
        ⊎_elim
        (λ both. absurd (grind arith))
        (λ old. rw here.0 (first k f (grind arith) old.0 (omega arith)))
        (split k f))
        (λ was.
        ⊎_elim
        (λ here. let none = ap s here.0 in p.soonest j k g f (omega arith) (inl (omega arith)) (omega arith))
        (λ old. p.soonest j k g f (omega arith) (grind arith) (omega arith))
        (split k f))
        (split j g);
  }

module _ (n : ℕ) (e l s : ℕ → ℕ) (t : ℕ) (p : Progress n e l s t) (first : (i : ℕ) → i < n → 1 ≤ e i)
    (i : ℕ) (h : i < n) (unplaced : s i ≡ 0) (opens : e i ≤ l i) (late : l i ≤ t) (a : ℕ)
    (after : (a ≡ 0) ⊎ ((r : ℕ) × (r < n) × (s r ≡ a) × (l i < l r)))
    (last : (r : ℕ) → r < n → l i < l r → s r ≤ l i → s r ≤ a) where
  -- a reading that is placed after slot a, or not at all, and is due by the latest of i opens after slot a
  pub late_after : (k : ℕ) → k < n → (s k ≡ 0) ⊎ (a < s k) → l k ≤ l i → a < e k
  late_after k g later due =
      let one = first k g in
      ⊎_elim
      (λ after_a. after_a)
      (λ up_to_a.
      ⊎_elim
      (λ none. omega arith)
      (λ r.
      let soon = p.soonest r.0 k r.1 g (omega arith) (rw r.2 later) (omega arith) in
      grind arith)
      after)
      (cases_lt a (e k))

  -- reading i opens after slot a
  opens_after : a < e i
  opens_after = late_after i h (inl unplaced) (omega arith)

  -- each number up to l i - a is the slot, counted from a, of a reading whose window lies after a and up to l i
  pub late_keys : (q : ℕ) → q < l i - a + 1 → (k : ℕ) × (k < n) × (a < e k) × (l k ≤ l i) × (s k - a ≡ q)
  late_keys q below =
      ⊎_elim
      (λ some.
      let there = p.filled (a + q) (omega arith) (omega arith) in
      let k = there.0 in
      let due : l k ≤ l i =
      ⊎_elim
      (λ over. let up = last k there.1 over (omega arith) in absurd (omega arith))
      (λ within. within)
      (cases_lt (l i) (l k)) in
      (k, there.1, late_after k there.1 (inr (omega arith)) due, due, omega arith))
      (λ none. (i, h, opens_after, omega arith, omega arith))
      (cases_lt 0 q)

  -- slot a is before the latest of i
  pub late_upward : a < l i
  late_upward = omega (arith, opens_after)
