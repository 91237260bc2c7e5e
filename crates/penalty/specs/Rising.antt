-- Comparisons of numbers: functions that never fall, and what is at most a number in both of two cases.
use Rattle.std.specs.Prelude.{ℕ, zero, suc, ◌/◌, ◌≤◌, Bool, true, false, cond}
use Rattle.std.proofs.Common.{le_refl, zero-lt-suc, div-mul-le_self, le-div_iff_mul-le, arith}
use Rattle.std.proofs.Math.Nat.{div-zero}

-- m never falls
abbrev pub Rising : (ℕ → ℕ) → Type 0
Rising m = (a b : ℕ) → a ≤ b → m a ≤ m b

-- what is at most n in both cases is at most n
pub either_most : (t : Bool) {a b n : ℕ} → a ≤ n → b ≤ n → cond t a b ≤ n
either_most true l r = l
either_most false l r = r

-- the quotient by S, rounded down, never falls
pub quotient_rising : (S : ℕ) → Rising (λ n. n / S)
quotient_rising zero a b h = rw (div-zero a, div-zero b) (le_refl 0)
quotient_rising (suc S) a b h =
    let l = div-mul-le_self a (suc S) in
    (le-div_iff_mul-le (zero-lt-suc S)).1 (omega (arith, l, h))
