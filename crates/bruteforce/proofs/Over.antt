-- The largest value over the pairs of a slot, channel after channel.
use Rattle.std.proofs.Common.{◌≡◌, ℕ, ◌+◌, ◌<◌, max, refl, sym, ◌∙◌, inl, inr, ⊎_elim, arith}
use Rattle.std.proofs.lemmas.Bool.{cases_lt}
use Rattle.bruteforce.specs.Largest.{LargestOver}

module _ (g : ℕ → ℕ → ℕ) (C : ℕ → Type 0) (j : ℕ) where
  -- one channel more
  pub over_channel : (b a v n : ℕ) → C b → v ≡ g j b → n ≡ max a v → LargestOver g (λ k c. (k ≡ j) × C c × (c < b)) a → LargestOver g (λ k c. (k ≡ j) × C c × (c < b + 1)) n
  over_channel b a v n here is larger h = record {
    within = grind arith;
    attained =
        ⊎_elim
        (λ less. inr (j, b, (refl, here, omega arith), omega arith))
        (λ more. let e : n ≡ a = omega arith in ⊎_elim (λ z. inl (e ∙ z)) (λ (k, c, m, at). inr (k, c, (m.0, m.1, omega arith), at ∙ sym e)) h.attained)
        (cases_lt a v);
  }

  -- a number that is no channel changes nothing
  pub over_no_channel : (b n : ℕ) → (C b → ⊥) → LargestOver g (λ k c. (k ≡ j) × C c × (c < b)) n → LargestOver g (λ k c. (k ≡ j) × C c × (c < b + 1)) n
  over_no_channel b n none h = grind arith
