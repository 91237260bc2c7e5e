-- Lines put into memory: a first one, rows after it, and a last one.
use Rattle.std.proofs.Common.{◌≡◌, ℕ, suc, ◌+◌, ◌<◌, ◌≤◌, List, [], ◌∷◌, ◌++◌, drop, length, set, take, ap, refl, ◌∙◌, arith}
use Rattle.std.proofs.Math.Seq.{take-suc}
use Rattle.std.proofs.lemmas.List.{get_or-set_same, length-set, take-set}
use Rattle.std.proofs.lemmas.Slice.{take-put_mid}
use Rattle.lines.specs.declared.line.Line.{Line}
use Rattle.lines.specs.declared.line.Line.TheVariants.{NoLeast}
use Rattle.listing.specs.Rows.{AreRows}
use Rattle.matching.specs.declared.window.Window.{Window}

-- no windows have no rows
pub no_rows : (ws : List Window) → AreRows (take 0 ws) []
no_rows ws = record { long = refl; each = λ i h. absurd (omega arith) }

-- two lines
pub two_put : (xs : List Line) (a b : Line) → 2 ≤ length xs → take 2 (set (set xs 0 a) 1 b) ≡ a ∷ (b ∷ [])
two_put [] a b long = absurd (omega (arith, long))
two_put (x ∷ []) a b long = absurd (omega (arith, long))
two_put (x ∷ (y ∷ xs)) a b long = refl

-- a first line
pub first_put : (xs : List Line) (a : Line) → 1 ≤ length xs → take 1 (set xs 0 a) ≡ a ∷ []
first_put [] a long = absurd (omega (arith, long))
first_put (x ∷ xs) a long = refl

-- a first line, and rows after it
pub rows_put : (xs rows : List Line) (a : Line) (n k : ℕ) → n < length xs → length rows ≡ n →
    take (n + 1) (take 1 (set xs 0 a) ++ (rows ++ drop k (drop 1 (set xs 0 a)))) ≡ a ∷ rows
rows_put xs rows a n k long same =
    take-put_mid 1 k (set xs 0 a) rows (n + 1) (omega (arith, same)) (omega (arith, length-set xs 0 a))
    ∙ ap (λ first. first ++ rows) (first_put xs a (omega arith))

-- and one line after them
pub last_put : (xs ls : List Line) (b : Line) (n : ℕ) → n + 1 < length xs → take (n + 1) xs ≡ ls → take (n + 2) (set xs (n + 1) b) ≡ ls ++ (b ∷ [])
last_put xs ls b n room before =
    let step : n + 2 ≡ suc (n + 1) = omega arith in
    ap (λ k. take k (set xs (n + 1) b)) step ∙ take-suc (set xs (n + 1) b) (n + 1) NoLeast (omega (arith, length-set xs (n + 1) b))
    ∙ ap (λ l. take (n + 1) (set xs (n + 1) b) ++ (l ∷ [])) (get_or-set_same xs (n + 1) b NoLeast room)
    ∙ ap (λ all. all ++ (b ∷ [])) (take-set xs (n + 1) b ∙ before)
