-- The lines of an answer.
use Rattle.std.specs.Prelude.{ℕ, List, [], ◌∷◌, ◌++◌, option_map}
use Rattle.job.specs.Faults.{layer, number}
use Rattle.job.specs.declared.answer.Answer.{Answer}
use Rattle.job.specs.declared.answer.Answer.TheVariants as answer
use Rattle.job.specs.declared.fault.FaultAt.{FaultAt}
use Rattle.lines.specs.declared.block.Block.{Block as BlockLine}
use Rattle.lines.specs.declared.block.Block.TheVariants.{Moment, Shut as ShutLine, Crowd}
use Rattle.lines.specs.declared.line.Line.{Line}
use Rattle.lines.specs.declared.line.Line.TheVariants as line
use Rattle.quotes.specs.Figure.{figure_of}
use Rattle.sequencing.specs.declared.answer.Block.{Block}
use Rattle.sequencing.specs.declared.answer.Block.TheVariants.{Blocked, Shut, Crowded}
use Rattle.sequencing.specs.declared.answer.Outcome.{Outcome}
use Rattle.sequencing.specs.declared.answer.Outcome.TheVariants.{Least, NoLeast}

-- a block in a line
abbrev pub block_line : Block → BlockLine
block_line (Blocked m) = Moment m.slot m.channel
block_line (Shut w) = ShutLine w.channel w.reading w.earliest w.latest
block_line (Crowded c) = Crowd c.first c.last c.number

-- the lines of a best in a round of so many slots; the rows are those of the readings, in the order of their slots
abbrev pub best_lines : ℕ → Outcome → List Line → List Line
best_lines slots (Least least below) rows =
    line.Least least (figure_of least slots) ∷ (rows ++ (line.Below (option_map block_line below) ∷ []))
best_lines slots (NoLeast block) rows = line.NoLeast ∷ (line.Blocked (block_line block) ∷ [])

-- the lines of an answer; an add or a setting has none
abbrev pub lines_of : Answer → List Line → List Line
lines_of answer.Done rows = []
lines_of (answer.Within bound largest total) rows = line.Within bound largest ∷ rows
lines_of (answer.Over bound block) rows = line.Over bound ∷ (line.Blocked (block_line block) ∷ [])
lines_of (answer.Best best) rows = best_lines best.total best.outcome rows

-- how many rows a best has in a round of so many slots: a reading for each slot where there is a least
abbrev pub best_rows : ℕ → Outcome → ℕ
best_rows slots (Least least below) = slots
best_rows slots (NoLeast block) = 0

-- how many rows an answer has: a reading for each slot where there is a list
abbrev pub row_count : Answer → ℕ
row_count answer.Done = 0
row_count (answer.Within bound largest total) = total
row_count (answer.Over bound block) = 0
row_count (answer.Best best) = best_rows best.total best.outcome

-- the line of a fault
abbrev pub fault_line : FaultAt → Line
fault_line f = line.Fault (number f.fault) (layer f.fault) f.offset
