-- The numbers of an input, pair after pair.
use Rattle.std.proofs.Common.{◌≡◌, ℕ, zero, suc, ◌+◌, ◌*◌, ◌/◌, List, [], ◌∷◌, length, take, map, refl, ap, arith, w16}
use Rattle.std.specs.Int.{from_be_bytes}
use Rattle.std.specs.Simd.{first_chunks}
use Rattle.report.specs.Input.{numbers}

-- one pair more is two bytes more
two_more : (k : ℕ) → 2 * suc k ≡ suc (suc (2 * k))
two_more k = omega arith

-- the first numbers are those of the first pairs
pub numbers-take : (k : ℕ) (xs : List ℕ) → numbers (take (2 * k) xs) ≡ map (from_be_bytes w16) (take k (first_chunks 2 (length xs / 2) xs))
numbers-take zero xs = refl
numbers-take (suc k) [] = rw two_more refl
numbers-take (suc k) (x ∷ []) = rw two_more refl
numbers-take (suc k) (x ∷ (y ∷ xs)) =
    let half : length (x ∷ (y ∷ xs)) / 2 ≡ suc (length xs / 2) = omega arith in
    let number : 256 * x + y ≡ from_be_bytes w16 (x ∷ (y ∷ [])) = omega arith in
    rw (two_more, half, number) (ap (λ ns. from_be_bytes w16 (x ∷ (y ∷ [])) ∷ ns) (numbers-take k xs))
