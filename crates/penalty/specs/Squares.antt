-- The largest number that passes a test, and square roots, rounded down, as such numbers.
use Rattle.std.proofs.Common.{◌≡◌, ℕ, zero, suc, ◌*◌, ◌≤◌, Bool, true, leb, sym, ◌∙◌, subst, ⊎_elim, le_of_suc-le-suc, mul-le-mul, eq-or-lt_of_le, arith}
use Rattle.std.proofs.lemmas.Bool.{cases_Bool, true≢false, leb-true, le-leb}
use Rattle.penalty.specs.TwoSided.{largest, root}
use Rattle.penalty.specs.Rising.{Rising}

-- the largest number that passes does pass, where 0 does
largest_passes : (p : ℕ → Bool) (n : ℕ) → p 0 ≡ true → p (largest p n) ≡ true
unfolding largest
largest_passes p zero h = h
largest_passes p (suc n) h = ⊎_elim (λ t. rw t t) (λ f. rw f (largest_passes p n h)) (cases_Bool (p (suc n)))

-- no number up to n that passes is above it
largest_above : (p : ℕ → Bool) (n v : ℕ) → v ≤ n → p v ≡ true → v ≤ largest p n
unfolding largest
largest_above p zero v l h = l
largest_above p (suc n) v l h =
    ⊎_elim (λ t. rw t l)
    (λ f. rw f
    (⊎_elim (λ e. absurd (true≢false (sym (subst (λ (m : ℕ). p m ≡ true) e h) ∙ f)))
    (λ b. largest_above p n v (le_of_suc-le-suc b) h)
    (eq-or-lt_of_le l)))
    (cases_Bool (p (suc n)))

-- a number is at most its square
square_above : (v : ℕ) → v ≤ v * v
square_above zero = omega arith
square_above (suc v) = let h : v * 1 ≤ v * suc v = mul-le-mul (omega arith) (omega arith) in omega (arith, h)

-- the root's square is not above 1000·s
pub root_square : (s : ℕ) → root s * root s ≤ 1000 * s
unfolding root
root_square s = leb-true (root s * root s) (1000 * s) (largest_passes (λ v. leb (v * v) (1000 * s)) (1000 * s) (le-leb 0 (1000 * s) (omega arith)))

-- the root is not above 1000·s either
pub root_small : (s : ℕ) → root s ≤ 1000 * s
root_small s = let l = square_above (root s) in let r = root_square s in omega (arith, l, r)

-- every number whose square is not above 1000·s is at most the root
pub root_above : (s v : ℕ) → v * v ≤ 1000 * s → v ≤ root s
unfolding root
root_above s v h =
    let l = square_above v in
    largest_above (λ v. leb (v * v) (1000 * s)) (1000 * s) v (omega (arith, l, h)) (le-leb (v * v) (1000 * s) h)

-- the roots never fall
pub root_rising : Rising root
root_rising s t h = root_above t (root s) (let r = root_square s in omega (arith, r, h))
