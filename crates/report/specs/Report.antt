-- What an input is answered with.
use Rattle.std.specs.Prelude.{ℕ, List, Result}
use Rattle.penalty.specs.Cost.{Cost}
use Rattle.round.specs.Audit.{Audited}
use Rattle.round.specs.declared.costed_moment.CostedMoment.{CostedMoment}
use Rattle.round.specs.declared.refusal.Refusal.{Refusal}
use Rattle.lines.specs.Lines.{text}
use Rattle.lines.specs.Text.{Written}
use Rattle.report.specs.Input.{row_of, list_of}
use Rattle.report.specs.Line.{line_of}

-- what was written in the memory is the line of the audit of the input's row and list under the penalty f
abbrev pub Reported : Cost → List ℕ → List ℕ → List ℕ → ℕ → Type 0
Reported f input old new n = (answer : Result CostedMoment Refusal) × Audited f (row_of input) (list_of input) answer × Written (text (line_of answer)) old new n
