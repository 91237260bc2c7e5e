-- The lines of readings in the order of their slots.
use Rattle.std.specs.Prelude.{◌≡◌, ℕ, ◌-◌, ◌<◌, ◌≤◌, List, length, slice_index_or}
use Rattle.lines.specs.declared.line.Line.{Line}
use Rattle.lines.specs.declared.line.Line.TheVariants.{NoLeast, Reading}
use Rattle.matching.specs.Windows.{slot_at, window}
use Rattle.matching.specs.declared.window.Window.{Window}

-- the line of a reading with its window and its slot
abbrev pub reading_line : Window → Line
reading_line w = Reading (record { channel = w.channel; reading = w.reading; earliest = w.earliest; latest = w.latest; slot = w.slot })

-- the line at a place, from 0
abbrev pub line_at : List Line → ℕ → Line
line_at rows i = slice_index_or rows i NoLeast

-- the rows are the lines of the readings in the order of their slots: the row of a window's slot is the line of its reading
pub record AreRows (ws : List Window) (rows : List Line) : Type 0 where
  pub long : length rows ≡ length ws
  pub each : (i : ℕ) → i < length ws → line_at rows (slot_at ws i - 1) ≡ reading_line (window ws i)

-- the windows stand in slots of the round, no two of them in the same; it serves the proofs only
pub record HasSlots (ws : List Window) : Type 0 where
  pub slots : (i : ℕ) → i < length ws → (1 ≤ slot_at ws i) × (slot_at ws i ≤ length ws)
  pub apart : (i j : ℕ) → i < length ws → j < length ws → slot_at ws i ≡ slot_at ws j → i ≡ j
