-- Rows that may stand in an owner's table: those in which nothing is wrong, and those of zeros.
use Rattle.std.proofs.Common.{◌≡◌, ℕ, ◌+◌, ◌-◌, ◌^◌, ◌<◌, ◌≤◌, ⊎_elim, List, length, get_or, replicate, arith}
use Rattle.std.specs.Prelude.{All}
use Rattle.std.proofs.lemmas.Bool.{cases_eq, cases_lt}
use Rattle.std.proofs.lemmas.Grind.{get_or_default_zero}
use Rattle.std.proofs.lemmas.List.{get_or-replicate, length-replicate}
use Rattle.std.proofs.lemmas.List.Elements.{All-replicate}
use Rattle.std.proofs.lemmas.List.Sorted.{IsNonDecreasingBy-from_all_adjacent}
use Rattle.penalty.specs.OwnTable.{IsRow}
use Rattle.penalty.specs.OwnRows.{Accepted, FallsAt, row_of}
use Rattle.penalty.specs.declared.row_refusal.RowRefusal.TheVariants.{Length, First, Falls}
use Rattle.penalty.specs.declared.side.Side.{Side}

-- a row that does not fall at the step after k is not lower there
not_lower : (row : List ℕ) (k d : ℕ) → k + 1 < length row → (FallsAt row (k + 1) → ⊥) → get_or row k d ≤ get_or row (k + 1) d
not_lower row k d within none =
    rw (get_or_default_zero row k d (omega (arith, within)), get_or_default_zero row (k + 1) d within)
    (let back : k + 1 - 1 ≡ k = omega arith in
    ⊎_elim (λ f. absurd (none (omega arith, within, rw back f))) (λ g. g) (cases_lt (get_or row (k + 1) 0) (get_or row k 0)))

-- where nothing is wrong with two rows, each may stand in a table
pub accepted_row : (ahead behind : List ℕ) → Accepted ahead behind → (side : Side) → All (λ n. n < 2 ^ 32) (row_of ahead behind side) →
    IsRow (row_of ahead behind side)
accepted_row ahead behind ok side small =
    let row = row_of ahead behind side in
    record {
      long = ⊎_elim (λ e. e) (λ ne. absurd (ok (Length side) ne)) (cases_eq (length row) 256);
      first = ⊎_elim (λ e. e) (λ ne. absurd (ok (First side) ne)) (cases_eq (get_or row 0 0) 0);
      rising = IsNonDecreasingBy-from_all_adjacent (λ n. n) row (λ k d within. not_lower row k d within (ok (Falls side (k + 1))));
      small = small;
    }

-- so may a row of zeros
pub zeros_row : IsRow (replicate 256 0)
zeros_row = record {
  long = length-replicate {A = ℕ} 256 0;
  first = get_or-replicate 256 0 0 0 (omega arith);
  rising = IsNonDecreasingBy-from_all_adjacent (λ n. n) (replicate 256 0) (λ k d within. let l = length-replicate {A = ℕ} 256 0 in
      rw (get_or-replicate 256 k 0 d (omega (arith, within, l)), get_or-replicate 256 (k + 1) 0 d (omega (arith, within, l))) (omega arith));
  small = All-replicate (λ n. n < 2 ^ 32) 256 0 (omega arith);
}
