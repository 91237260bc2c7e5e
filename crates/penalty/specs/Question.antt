-- A cost as the answer to a question.
use Rattle.std.specs.Prelude.{ℕ}
use Rattle.penalty.specs.Cost.{Cost}
use Rattle.penalty.specs.declared.question.Question.{Question}

-- what f answers to a question
abbrev pub asked : Cost → Question → ℕ
asked f q = f q.slots q.channel q.readings q.count q.slot
