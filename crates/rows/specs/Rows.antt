-- When best of a row and a trial of it are refused, and by which number. A row is 64 numbers of readings, 0 where no channel is.
use Rattle.std.specs.Prelude.{ℕ, ◌+◌, ◌-◌, Bool, cond, ◌||◌, ◌==◌, not, nat_lt, List, [], ◌∷◌, length, slice_set, sum}
use Rattle.std.specs.List.{list_any}
use Rattle.round.specs.Lists.{readings}
use Rattle.rows.specs.declared.refusal.Refusal.{Refusal}
use Rattle.rows.specs.declared.refusal.Refusal.TheVariants.{RowLength, ChannelAboveLimit, ReadingsOutOfRange, Absent, TotalAboveLimit, Sequencing}
use Rattle.sequencing.specs.Refusals.{best_refused, first_of, number as best_number}

-- the number of a refusal
abbrev pub number : Refusal → ℕ
number RowLength = 17
number ChannelAboveLimit = 1
number ReadingsOutOfRange = 2
number Absent = 4
number TotalAboveLimit = 5
number (Sequencing refusal) = best_number refusal

-- these numbers are no row: they are not 64
abbrev pub is_no_row : List ℕ → Bool
is_no_row row = not (length row == 64)

-- some number of a row is above 4096
abbrev pub has_above : List ℕ → Bool
has_above row = list_any (nat_lt 4096) row

-- a row is refused as a table by 17 where it is not 64 long, by 2 where a number is above 4096, by 5 where their sum is
abbrev pub table_refused : List ℕ → ℕ
table_refused row = first_of ((17, is_no_row row) ∷ (2, has_above row) ∷ (5, nat_lt 4096 (sum row)) ∷ [])

-- n, or m where n is 0: refused by n, and where that is no refusal by m
abbrev pub or_else : ℕ → ℕ → ℕ
or_else n m = cond (n == 0) m n

-- best of a row with memory of these sizes is refused as the row is, and else as best of a table with these readings: by 6 where no
-- channel has any, by 8 where the memory is too little
abbrev pub row_refused : List ℕ → ℕ → ℕ → ℕ → ℕ
row_refused row w r l = or_else (table_refused row) (best_refused row w r l)

-- a trial of n readings for channel c is refused by 17 where the row is not 64 long, by 1 where c is above 63, by 2 where n is 0 or
-- above 4096, or a number of the row is above it, by 4 where c is no channel of the row, by 5 where the sum would be above 4096
abbrev pub trial_refused : List ℕ → ℕ → ℕ → ℕ
trial_refused row c n =
    first_of ((17, is_no_row row) ∷ (1, nat_lt 63 c) ∷ (2, n == 0 || nat_lt 4096 n || has_above row) ∷ (4, readings row c == 0)
    ∷ (5, nat_lt 4096 ((sum row - readings row c) + n)) ∷ [])

-- a row with n readings for channel c
abbrev pub changed : List ℕ → ℕ → ℕ → List ℕ
changed row c n = slice_set row c n
