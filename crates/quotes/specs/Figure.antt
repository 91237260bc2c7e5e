-- The figure of a least bound.
use Rattle.std.specs.Int.{div_ceil}
use Rattle.std.specs.Prelude.{ℕ, ◌*◌}

-- the figure of a least bound in a round of so many slots: a hundred times the least, divided by the slots, rounded up
abbrev pub figure_of : ℕ → ℕ → ℕ
figure_of least slots = div_ceil (100 * least) slots
