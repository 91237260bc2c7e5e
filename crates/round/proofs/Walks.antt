-- A walk over pairs, by slot and then by channel, that keeps the largest value and the first pair that has it.
use Rattle.std.proofs.Common.{◌≡◌, ℕ, ◌+◌, ◌<◌, ◌≤◌, true, ltb, ◌⊎◌, List, length, is_some, Some, None, sum, Option, sym, refl, ap, ◌∙◌, subst, inl, inr, ⊎_elim, arith}
use Rattle.std.proofs.lemmas.Bool.{cases_Bool, cases_lt, ltb-true, ltb-false}
use Rattle.round.specs.Walk.{FirstMaximum, Found, Past, larger_of}
use Rattle.round.specs.Lists.{Moment, Before}
use Rattle.round.proofs.Counts.{channel_below}
use Rattle.round.specs.declared.costed_moment.CostedMoment.{CostedMoment}

-- the order of moments is transitive
before_trans : (i a j b k c : ℕ) → Before i a j b → Before j b k c → Before i a k c
before_trans i a j b k c p q = grind arith

-- the pairs before the next one are those before this one, and this one
before_more : (j b k c : ℕ) → Before j b k (c + 1) → Before j b k c ⊎ ((j ≡ k) × (b ≡ c))
before_more j b k c p = grind arith

-- the pairs before this one are before the next one
before_less : (j b k c : ℕ) → Before j b k c → Before j b k (c + 1)
before_less j b k c p = grind arith

module _ (g : ℕ → ℕ → ℕ) where
  -- the same pairs, described otherwise
  pub found_same : {M N : ℕ → ℕ → Type 0} → ((j b : ℕ) → M j b → N j b) → ((j b : ℕ) → N j b → M j b) → (o : Option CostedMoment) → Found g M o → Found g N o
  found_same to from None h = λ j b n. h j b (from j b n)
  found_same to from (Some r) h = record {
    moment = to r.slot r.channel h.moment;
    exact = h.exact;
    within = λ j b n. h.within j b (from j b n);
    first = λ j b n. h.first j b (from j b n);
  }

  module _ (M : ℕ → ℕ → Type 0) (k c : ℕ) where
    -- what is in M at an equal pair is in M here
    here_from : (j b : ℕ) → (j ≡ k) × (b ≡ c) → M j b → M k c
    here_from j b e m = subst (λ (x : ℕ). M x c) e.0 (subst (λ (y : ℕ). M j y) e.1 m)

    -- g has the same value at an equal pair
    value_from : (j b : ℕ) → (j ≡ k) × (b ≡ c) → g j b ≡ g k c
    value_from j b e = ap (λ x. g x b) e.0 ∙ ap (g k) e.1

    -- a pair that is not in M changes nothing
    pub found_skip : (M k c → ⊥) → (o : Option CostedMoment) → Found g (λ j b. M j b × Before j b k c) o → Found g (λ j b. M j b × Before j b k (c + 1)) o
    found_skip none =
        found_same (λ j b m. (m.0, before_less j b k c m.1))
        (λ j b m. (m.0, ⊎_elim (λ p. p) (λ e. absurd (none (here_from j b e m.0))) (before_more j b k c m.1)))

    module _ (here : M k c) (n : ℕ) (is : n ≡ g k c) where
      -- the pair is the largest where it passes all before it
      takes : ((j b : ℕ) → M j b → Before j b k c → g j b < n) → FirstMaximum g (λ j b. M j b × Before j b k (c + 1)) (record { cost = n; slot = k; channel = c })
      takes above = record {
        moment = (here, inr (refl, omega arith));
        exact = sym is;
        within = λ j b m. ⊎_elim (λ p. let a = above j b m.0 p in omega arith) (λ e. let v = value_from j b e in omega arith) (before_more j b k c m.1);
        first = λ j b m p. above j b m.0 p;
      }

      -- else what was found before stays
      stays : (r : CostedMoment) → n ≤ r.cost → Found g (λ j b. M j b × Before j b k c) (Some r) → Found g (λ j b. M j b × Before j b k (c + 1)) (Some r)
      stays r less h = record {
        moment = (h.moment.0, before_less r.slot r.channel k c h.moment.1);
        exact = h.exact;
        within = λ j b m. ⊎_elim (λ p. h.within j b (m.0, p)) (λ e. let v = value_from j b e in omega arith) (before_more j b k c m.1);
        first = λ j b m p. h.first j b (m.0, before_trans j b r.slot r.channel k c p h.moment.1) p;
      }

      -- a pair in M is taken into account
      pub found_more : (o : Option CostedMoment) → Found g (λ j b. M j b × Before j b k c) o → Found g (λ j b. M j b × Before j b k (c + 1)) (Some (larger_of o (record { cost = n; slot = k; channel = c })))
      found_more None h = takes (λ j b m p. absurd (h j b (m, p)))
      found_more (Some r) h =
          ⊎_elim
          (λ t. rw t (takes (λ j b m p. let w = h.within j b (m, p) in let l = ltb-true r.cost n t in omega arith)))
          (λ f. rw f (stays r (ltb-false r.cost n f) h))
          (cases_Bool (ltb r.cost n))

-- the moments before one slot, under another name for it
pub found_at : (g : ℕ → ℕ → ℕ) (t : List ℕ) (k m : ℕ) (o : Option CostedMoment) → k ≡ m → Found g (Past t k 0) o → Found g (Past t m 0) o
found_at g t k m o same h = subst (λ (x : ℕ). Found g (Past t x 0) o) same h

-- after the last channel comes the next slot
pub past_slot : (g : ℕ → ℕ → ℕ) (t : List ℕ) → length t ≡ 64 → (k : ℕ) (o : Option CostedMoment) → Found g (Past t k 64) o → Found g (Past t (k + 1) 0) o
past_slot g t long k =
    found_same g
    (λ j b m. (m.0, ⊎_elim (λ p. inl (omega arith)) (λ e. inl (omega arith)) m.1))
    (λ j b m.
    let below = channel_below t b m.0.1 in
    (m.0, ⊎_elim (λ p. ⊎_elim (λ l. inl l) (λ ge. inr (omega arith, omega arith)) (cases_lt j k)) (λ e. absurd (omega arith)) m.1))

-- after the last slot every moment is past
pub past_all : (g : ℕ → ℕ → ℕ) (t : List ℕ) (k : ℕ) → k ≡ sum t → (o : Option CostedMoment) → Found g (Past t (k + 1) 0) o → Found g (Moment t) o
past_all g t k end = found_same g (λ j b m. m.0) (λ j b m. (m, inl (omega arith)))

-- where there is a pair, something is found
pub found_some : (g : ℕ → ℕ → ℕ) (M : ℕ → ℕ → Type 0) (o : Option CostedMoment) → Found g M o → (j b : ℕ) → M j b → is_some o ≡ true
found_some g M None h j b m = absurd (h j b m)
found_some g M (Some r) h j b m = refl
