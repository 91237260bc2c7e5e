-- The lines of an answer, put one after another. These definitions serve the proofs only.
use Rattle.std.specs.Prelude.{◌≡◌, ℕ, ◌≤◌, List, length, take}
use Rattle.job.specs.declared.answer.Answer.{Answer}
use Rattle.lines.specs.declared.line.Line.{Line}
use Rattle.listing.specs.Answers.{lines_of, row_count}
use Rattle.listing.specs.Rows.{AreRows, HasSlots}
use Rattle.matching.specs.declared.window.Window.{Window}

-- the first n windows can be listed, each in a row: they are at most 4096, and stand in the slots 1 to n, each in its own
pub record IsListable (n : ℕ) (ws : List Window) : Type 0 where
  pub few : n ≤ 4096
  pub room : n ≤ length ws
  pub slots : HasSlots (take n ws)

-- the first n lines are those of an answer with these windows
abbrev pub IsPut : Answer → List Window → List Line → ℕ → Type 0
IsPut a ws lines n = (n ≤ 4098) × (rows : List Line) × AreRows (take (row_count a) ws) rows × (take n lines ≡ lines_of a rows)
