-- Tables: a rule at every entry, by one test that the checker computes over the table.
use Rattle.std.proofs.Common.{◌≡◌, ℕ, zero, suc, ◌<◌, Bool, true, ◌&&◌, List, [], ◌∷◌, length, get_or, le_of_suc-le-suc, not-suc-le-zero}
use Rattle.std.proofs.lemmas.Bool.{and_parts}

-- whether p holds of each entry and its place: of the first at place 0, and of the others one place further on
abbrev pub holds : (ℕ → ℕ → Bool) → List ℕ → Bool
holds p [] = true
holds p (x ∷ xs) = p 0 x && holds (λ k. p (suc k)) xs

-- what holds of each entry and its place holds of entry k
pub holds_at : (p : ℕ → ℕ → Bool) (xs : List ℕ) → holds p xs ≡ true → (k : ℕ) → k < length xs → p k (get_or xs k 0) ≡ true
holds_at p [] t k h = absurd (not-suc-le-zero h)
holds_at p (x ∷ xs) t zero h = (and_parts (p 0 x) (holds (λ k. p (suc k)) xs) t).0
holds_at p (x ∷ xs) t (suc k) h = holds_at (λ k. p (suc k)) xs (and_parts (p 0 x) (holds (λ k. p (suc k)) xs) t).1 k (le_of_suc-le-suc h)
