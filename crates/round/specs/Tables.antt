-- What is made of a row: a table, or a refusal.
use Rattle.std.specs.Prelude.{◌≡◌, ℕ, List, Ok, Err, Result}
use Rattle.round.specs.Refusals.{RowRefused}
use Rattle.round.specs.declared.readings.Readings.{Readings}
use Rattle.round.specs.declared.refusal.Refusal.{Refusal}

-- what is made of a row: the table of its numbers, or the refusal by 17, 2 or 5
abbrev pub IsTable : List ℕ → Result Readings Refusal → Type 0
IsTable row (Ok table) = table.by_channel ≡ row
IsTable row (Err e) = RowRefused row e
