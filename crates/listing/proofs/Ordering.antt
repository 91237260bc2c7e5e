-- The lines of windows put into the rows of their slots, window after window.
use Rattle.std.proofs.Common.{◌≡◌, ℕ, ◌-◌, ◌<◌, List, length}
use Rattle.lines.specs.declared.line.Line.{Line}
use Rattle.listing.specs.Rows.{line_at, reading_line}
use Rattle.matching.specs.Windows.{slot_at, window}
use Rattle.matching.specs.declared.window.Window.{Window}

-- the first k windows have their rows
pub record RowsTo (ws : List Window) (rows : List Line) (k : ℕ) : Type 0 where
  pub long : length rows ≡ length ws
  pub each : (i : ℕ) → i < k → line_at rows (slot_at ws i - 1) ≡ reading_line (window ws i)
