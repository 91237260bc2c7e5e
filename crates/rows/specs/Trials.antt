-- What a trial makes of a row, and what it leaves when it ends.
use Rattle.std.specs.Prelude.{ℕ, ◌==◌, cond, List, Some, None, Option}
use Rattle.rows.specs.Rows.{changed, or_else, row_refused, trial_refused}
use Rattle.rows.specs.declared.trial.Trial.{Trial}

-- the row under a trial of n readings for channel c: changed, but as it was where the trial is refused
abbrev pub tried : List ℕ → ℕ → ℕ → List ℕ
tried row c n = cond (trial_refused row c n == 0) (changed row c n) row

-- a row with the number that stood at channel c before, if there is one, and else as it is
abbrev pub restored : List ℕ → ℕ → Option ℕ → List ℕ
restored row c None = row
restored row c (Some n) = changed row c n

-- the row that a trial leaves when it ends
abbrev pub row_before : Trial → List ℕ
row_before trial = restored trial.row.now trial.channel trial.before

-- best of a row with n readings for channel c is refused as the trial is, and then as best of the changed row
abbrev pub tried_refused : List ℕ → ℕ → ℕ → ℕ → ℕ → ℕ → ℕ
tried_refused row c n w r l = or_else (trial_refused row c n) (row_refused (changed row c n) w r l)
