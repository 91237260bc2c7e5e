-- What a job prints, record after record.
use Rattle.std.specs.Prelude.{◌≡◌, ℕ, zero, suc, ◌<◌, ◌≤◌, ◌⊎◌, List, [], ◌∷◌, ◌++◌, drop, length, take, None, Some}
use Rattle.job.specs.Jobs.{State, Stops, TakesNext, started, state_of}
use Rattle.job.specs.declared.answer.Answer.{Answer}
use Rattle.job.specs.declared.fault.JobFault.{JobFault}
use Rattle.job.specs.declared.fault.JobFault.TheVariants.{TooLong}
use Rattle.lines.specs.declared.line.Line.{Line}
use Rattle.listing.specs.Answers.{fault_line, lines_of, row_count}
use Rattle.listing.specs.Rows.{AreRows}
use Rattle.listing.specs.declared.state.Listing.{Listing}
use Rattle.penalty.specs.Cost.{Cost}
use Rattle.sequencing.specs.Memory.{Memory}

-- memory of this size is enough for every round, so that no call is refused for want of it
pub record IsRoomy (m : Memory) : Type 0 where
  pub windows : length m.windows ≡ 4096
  pub ready : length m.ready ≡ 64
  pub list : length m.list ≡ 4096

-- a job in state s takes its next record, which leaves it in state s', and prints these lines: those of the answer, with
-- its readings in the order of their slots
pub record PrintsNext (f : Cost) (s s' : State) (lines : List Line) : Type 0 where
  pub before : Memory
  pub after : Memory
  pub answer : Answer
  pub rows : List Line
  pub roomy : IsRoomy before
  pub takes : TakesNext f s s' before after answer
  pub ordered : AreRows (take (row_count answer) after.windows) rows
  pub printed : lines ≡ lines_of answer rows

-- a job in state s takes no more records, and prints these lines: none at the end of its file; or the fault that stops it
abbrev pub PrintsLast : State → List Line → Type 0
PrintsLast s lines =
    ((s.bytes ≡ []) × (lines ≡ []))
    ⊎ ((m : Memory) × (e : JobFault) × IsRoomy m × Stops s m e × (lines ≡ fault_line (record { fault = e; offset = s.offset }) ∷ []))

-- a job in state s takes n records more, for the bottom f, and prints these lines: those of one record after another, and
-- those after the last
abbrev pub Prints : Cost → ℕ → State → List Line → Type 0
Prints f zero s lines = PrintsLast s lines
Prints f (suc n) s lines = (s' : State) × (own others : List Line) × PrintsNext f s s' own × Prints f n s' others × (lines ≡ own ++ others)

-- the lines of a job file for the bottom f: a file above 4096 bytes has just that fault; another one is read from its
-- first byte, with nothing held before
abbrev pub IsListing : Cost → List ℕ → List Line → Type 0
IsListing f file lines =
    ((4096 < length file) × (lines ≡ fault_line (record { fault = TooLong; offset = 0 }) ∷ []))
    ⊎ ((length file ≤ 4096) × (n : ℕ) × Prints f n (started file) lines)

-- the lines that are put and not given yet
abbrev pub pending : {B : Type 0} → Listing B → List Line
pending listing = drop listing.given (take listing.count listing.lines)

-- the lines that a listing has left: those that are put and not given yet, and then those that its job still prints, none where
-- it takes no more records; `cost` is the meaning of the bottoms
abbrev pub HasLeft : {B : Type 0} → (B → Cost) → Listing B → List Line → Type 0
HasLeft cost listing lines = (others : List Line) × (lines ≡ pending listing ++ others) × elim listing.job [
  | None ↦ others ≡ []
  | Some job ↦ (n : ℕ) × Prints (cost job.held.bottom) n (state_of job) others
]
