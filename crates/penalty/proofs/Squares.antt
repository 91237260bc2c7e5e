-- The root table: one test that the checker computes over its entries is the rule at each of them.
use Rattle.std.proofs.Common.{◌≡◌, ℕ, ◌+◌, ◌*◌, ◌<◌, ◌≤◌, Bool, true, ◌&&◌, ltb, leb, List, length, get_or, ⊎_elim, mul-le-mul, le_antisymm, arith}
use Rattle.std.proofs.lemmas.Bool.{cases_lt, and_parts, leb-true, ltb-true}
use Rattle.penalty.specs.Squares.{root_square, root_above, root_rising}
use Rattle.penalty.specs.TwoSided.{root, RootTable}
use Rattle.penalty.proofs.Tables.{holds, holds_at}

-- whether v is the square root of 1000·s, rounded down
abbrev pub is_root : ℕ → ℕ → Bool
is_root s v = leb (v * v) (1000 * s) && ltb (1000 * s) ((v + 1) * (v + 1))

-- what passes that test is the root
root_is : (s v : ℕ) → is_root s v ≡ true → v ≡ root s
root_is s v t =
    let b = and_parts (leb (v * v) (1000 * s)) (ltb (1000 * s) ((v + 1) * (v + 1))) t in
    let above : 1000 * s < (v + 1) * (v + 1) = ltb-true (1000 * s) ((v + 1) * (v + 1)) b.1 in
    le_antisymm (root_above s v (leb-true (v * v) (1000 * s) b.0))
    (⊎_elim
    (λ (l : v < root s).
    let q : (v + 1) * (v + 1) ≤ root s * root s = mul-le-mul (omega (arith, l)) (omega (arith, l)) in
    let r = root_square s in
    omega (arith, above, q, r))
    (λ (l : root s ≤ v). l)
    (cases_lt v (root s)))

-- a table of 256 entries that passes the test at each of them is the root table
pub root_table_lem : (xs : List ℕ) → length xs ≡ 256 → holds is_root xs ≡ true → RootTable xs
root_table_lem xs long test =
    let rule : (s : ℕ) → s < 256 → get_or xs s 0 ≡ root s = λ s h. root_is s (get_or xs s 0) (holds_at is_root xs test s (omega (arith, long, h))) in
    record {
      long = long;
      rule = rule;
      rising = λ s t l h. rw (rule s (omega (arith, l, h)), rule t h) (root_rising s t l);
    }
