-- Steiner and Yeomans' formulas: the window of a reading under the absolute deviation.
use Rattle.std.specs.Prelude.{ℕ, ◌+◌, ◌-◌, ◌*◌, ◌/◌, max, min}
use Rattle.std.specs.Int.{div_ceil}

-- the earliest slot of reading j of d in S slots at bound b: the larger of 1 and (j·S − b) / d, rounded up.
-- Where b is above j·S the subtraction stops at 0, and the larger is 1 as well.
abbrev pub earliest : ℕ → ℕ → ℕ → ℕ → ℕ
earliest S d j b = max 1 (div_ceil (j * S - b) d)

-- its latest slot: the smaller of S and ((j − 1)·S + b) / d, rounded down, plus 1
abbrev pub latest : ℕ → ℕ → ℕ → ℕ → ℕ
latest S d j b = min S (((j - 1) * S + b) / d + 1)
