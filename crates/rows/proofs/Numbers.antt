-- By which number a row is refused.
use Rattle.std.proofs.Common.{rules, ◌≡◌, ◌≢◌, ℕ, ◌+◌, ◌-◌, ◌<◌, ◌≤◌, true, false, List, length, All, Any, MatchBool, Bool, [], inl, sum, not, sym, refl, ap, ◌∙◌, ⊎_elim, arith}
use Rattle.std.specs.Prelude.{◌==◌, ◌||◌, nat_lt}
use Rattle.std.proofs.lemmas.Bool.{false≢true, cases_eq, cases_lt, eq-eqb, le-ltb, lt-ltb, ne_eqb}
use Rattle.std.proofs.lemmas.List.{get_or_default, get_or-set_other, get_or-set_same, length-set}
use Rattle.std.proofs.lemmas.List.Folds.{list_any_at, list_any_none}
use Rattle.std.proofs.lemmas.List.Sums.{get_or-le-sum_by, sum_by-set}
use Rattle.round.proofs.Counts.{channel_below}
use Rattle.round.specs.Lists.{readings}
use Rattle.round.specs.Refusals.{RowRefused, number as row_number}
use Rattle.round.specs.declared.refusal.Refusal.{Refusal}
use Rattle.round.specs.declared.refusal.Refusal.TheVariants.{RowLength, ReadingsAboveLimit, TotalAboveLimit, NoChannel, ListLength, NotAChannel, WrongCount}
use Rattle.rows.specs.Rows.{changed, has_above, is_no_row, table_refused, trial_refused}

module _ (row : List ℕ) where
  -- a row of 64 numbers is a row
  pub is_row : length row ≡ 64 → is_no_row row ≡ false
  is_row long = ap not (eq-eqb (length row) 64 long)

  -- and one of another length is none
  pub is_none : length row ≢ 64 → is_no_row row ≡ true
  is_none other = ap not (ne_eqb (length row) 64 other)

  -- a number is above the limit
  pub some_above : (c : ℕ) → 4096 < readings row c → has_above row ≡ true
  some_above c above = list_any_at (nat_lt 4096) row c 0 (channel_below row c (omega arith)) (lt-ltb 4096 (readings row c) above)

  -- none is
  pub none_above : ((c : ℕ) → c < length row → readings row c ≤ 4096) → has_above row ≡ false
  none_above small = list_any_none (nat_lt 4096) row (λ c d below. rw (get_or_default row c d 0 below) (le-ltb 4096 (readings row c) (small c below)))

  -- a row is long enough where it is not refused by 17
  is_long : (length row ≢ 64 → ⊥) → length row ≡ 64
  is_long not_other = ⊎_elim (λ same. same) (λ other. absurd (not_other other)) (cases_eq (length row) 64)

  -- a row that is refused as a table
  pub refused_table : (e : Refusal) → RowRefused row e → table_refused row ≡ row_number e
  refused_table RowLength h = rw (is_none (h.refused []).fault) refl
  refused_table ReadingsAboveLimit h =
      let r = h.refused [] in
      rw (is_row (is_long (r.first RowLength (inl (omega arith)))), some_above r.fault.0 r.fault.1) refl
  refused_table TotalAboveLimit h =
      let r = h.refused [] in
      let small : (c : ℕ) → c < length row → readings row c ≤ 4096 =
      λ c below. ⊎_elim (λ above. absurd (r.first ReadingsAboveLimit (inl (omega arith)) (c, above))) (λ le. le) (cases_lt 4096 (readings row c)) in
      rw (is_row (is_long (r.first RowLength (inl (omega arith)))), none_above small, lt-ltb 4096 (sum row) r.fault) refl
  refused_table NoChannel h = let few = h.row in absurd (omega arith)
  refused_table ListLength h = let few = h.row in absurd (omega arith)
  refused_table (NotAChannel slot) h = let few = h.row in absurd (omega arith)
  refused_table (WrongCount channel) h = let few = h.row in absurd (omega arith)

  -- and one that is not
  pub taken_table : length row ≡ 64 → sum row ≤ 4096 → table_refused row ≡ 0
  taken_table long few =
      let small : (c : ℕ) → c < length row → readings row c ≤ 4096 =
      λ c below. omega (arith, get_or-le-sum_by (λ x. x) row c 0 below) in
      rw (is_row long, none_above small, le-ltb 4096 (sum row) few) refl

  -- what the test of a row says
  pub above_is : (b : Bool) → MatchBool b (All (λ n. n ≤ 4096) row) (Any (λ n. 4096 < n) row) → not b ≡ has_above row
  above_is true all = sym (none_above (λ c below. all c 0 below))
  above_is false any = sym (some_above any.0 (rw (get_or_default row any.0 0 any.1 any.2, any.3) any.4))

  -- no number is above the limit where the test says so
  small_of : has_above row ≡ false → (c : ℕ) → readings row c ≤ 4096
  small_of none c = ⊎_elim (λ above. absurd (false≢true (sym none ∙ some_above c above))) (λ le. le) (cases_lt 4096 (readings row c))

-- readings that a channel can have
in_range : (n : ℕ) → (n == 0 || nat_lt 4096 n) ≡ false → (0 < n) × (n ≤ 4096)
in_range n none = search rules

module _ (row : List ℕ) (c n : ℕ) where
  -- the sum of a row with other readings of one channel
  changed_sum : c < length row → sum (changed row c n) ≡ (sum row - readings row c) + n
  changed_sum below = omega (arith, sum_by-set (λ x. x) row c n 0 below, get_or-le-sum_by (λ x. x) row c 0 below)

  -- a row with other readings of one channel has no number above the limit
  changed_small : n ≤ 4096 → has_above row ≡ false → has_above (changed row c n) ≡ false
  changed_small le none =
      none_above (changed row c n)
      (λ b below.
      ⊎_elim (λ same. rw same (rw (get_or-set_same row c n 0 (omega (arith, length-set row c n))) le))
      (λ other. rw (get_or-set_other row c b n 0 other) (small_of row none b)) (cases_eq b c))

  -- where all else is right a trial is refused as the changed row is refused as a table
  pub trial_as_table : length row ≡ 64 → c < 64 → (n == 0 || nat_lt 4096 n) ≡ false → has_above row ≡ false → 0 < readings row c →
      trial_refused row c n ≡ table_refused (changed row c n)
  trial_as_table long below range none there =
      rw (
        is_row row long,
        le-ltb 63 c (omega arith),
        range,
        none,
        ne_eqb (readings row c) 0 (λ e. omega arith),
        is_row (changed row c n) (length-set row c n ∙ long),
        changed_small (in_range n range).1 none,
        changed_sum (omega arith),
      ) refl
