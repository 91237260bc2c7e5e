-- A job, record after record.
use Rattle.std.specs.Prelude.{◌≡◌, ℕ, ◌+◌, List, [], length, Option, Some, None, Result, Ok, Err}
use Rattle.job.specs.Held.{Held, held_of, nothing_held}
use Rattle.job.specs.Records.{Begins, IsNoRecord}
use Rattle.job.specs.Taking.{Refuses, Takes}
use Rattle.job.specs.declared.answer.Answer.{Answer}
use Rattle.job.specs.declared.fault.FaultAt.{FaultAt}
use Rattle.job.specs.declared.fault.JobFault.{JobFault}
use Rattle.job.specs.declared.fault.JobFault.TheVariants as fault
use Rattle.job.specs.declared.job.Job.{Job}
use Rattle.job.specs.declared.record.Record.{Record}
use Rattle.penalty.specs.Cost.{Cost}
use Rattle.sequencing.specs.Memory.{Memory}

-- a job as far as it is read: what it holds, the offset of the next byte, and the bytes that are not read yet
pub record State : Type 0 where
  pub held : Held
  pub offset : ℕ
  pub bytes : List ℕ

-- the state of a job
abbrev pub state_of : {B : Type 0} → Job B → State
state_of job = record { held = held_of job.held; offset = job.offset; bytes = job.bytes.now }

-- the state of a job that is not read yet: nothing is held, and all bytes of the file are left
abbrev pub started : List ℕ → State
started file = record { held = nothing_held; offset = 0; bytes = file }

-- a job in state s is stopped with a fault: it has bytes left, and they begin with no record, or with one that is refused
abbrev pub Stops : State → Memory → JobFault → Type 0
Stops s m (fault.Record e) = IsNoRecord s.bytes e
Stops s m e = (r : Record) × (rest : List ℕ) × Begins s.bytes r rest × Refuses s.held m r e

-- the next record of a job in state s is taken with an answer, and leaves it in state s'; the offset moves on by its bytes
abbrev pub TakesNext : Cost → State → State → Memory → Memory → Answer → Type 0
TakesNext f s s' m m' a =
    (r : Record) × Begins s.bytes r s'.bytes × (s'.offset + length s'.bytes ≡ s.offset + length s.bytes) × Takes f s.held s'.held r m m' (Ok a)

-- what comes of a job in state s: at the end of its bytes nothing; else its next record is taken; or the job is stopped with a
-- fault, at the offset of the record's kind byte. Where no record is taken nothing has changed
abbrev pub Next : Cost → State → State → Memory → Memory → Result (Option Answer) FaultAt → Type 0
Next f s s' m m' (Ok None) = (s.bytes ≡ []) × (s' ≡ s) × (m' ≡ m)
Next f s s' m m' (Ok (Some a)) = TakesNext f s s' m m' a
Next f s s' m m' (Err e) = Stops s m e.fault × (e.offset ≡ s.offset) × (s' ≡ s) × (m' ≡ m)
