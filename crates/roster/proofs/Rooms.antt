-- Whether memory is enough for a series, call after call.
use Rattle.std.proofs.Common.{◌≡◌, ℕ, ◌+◌, ◌<◌, ◌≤◌, List, length, sum_by, take, arith}
use Rattle.std.proofs.lemmas.List.Sums.{sum_by_more_le}
use Rattle.roster.specs.Series.{call_at, list_of, ready_of, windows_of}
use Rattle.roster.specs.declared.call.Call.{Call}
use Rattle.roster.specs.declared.call.Call.TheVariants.{Add}
use Rattle.roster.specs.declared.call.Sizes.{Sizes}

-- this much memory is left of `room` after what the first i calls are lent
pub record LeftOver (calls : List Call) (room : Sizes) (i : ℕ) (left : Sizes) : Type 0 where
  pub windows : left.windows + sum_by windows_of (take i calls) ≡ room.windows
  pub ready : left.ready + sum_by ready_of (take i calls) ≡ room.ready
  pub list : left.list + sum_by list_of (take i calls) ≡ room.list

-- what call i is lent ends within what the series is lent
pub end_within : (size : Call → ℕ) (calls : List Call) (i from to n : ℕ) → i < length calls → from ≡ sum_by size (take i calls) → to ≡ from + size (call_at calls i) →
    sum_by size calls ≤ n → to ≤ n
end_within size calls i from to n here starts ends enough = omega (arith, sum_by_more_le size calls i (Add 0 0) here)
