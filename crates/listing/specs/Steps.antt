-- One record of a job, and that a listing comes to an end. These definitions serve the proofs only.
use Rattle.std.specs.Prelude.{ℕ, ◌+◌, ◌-◌, ◌*◌, ◌<◌, ◌≤◌, List, length, take, None, Some}
use Rattle.job.specs.Jobs.{State}
use Rattle.lines.specs.declared.line.Line.{Line}
use Rattle.listing.specs.Listing.{HasLeft, PrintsLast, PrintsNext}
use Rattle.listing.specs.declared.state.Listing.{Listing}
use Rattle.listing.specs.declared.step.Step.{Step}
use Rattle.listing.specs.declared.step.Step.TheVariants.{Answered, Ended}
use Rattle.penalty.specs.Cost.{Cost}

-- a job in state s takes its next record, which leaves it in state s', or takes no more; the first n lines are what it prints
abbrev pub Steps : Cost → State → State → List Line → Step → Type 0
Steps f s s' lines (Answered n) = (n ≤ 4098) × PrintsNext f s s' (take n lines) × (length s'.bytes < length s.bytes)
Steps f s s' lines (Ended n) = (n ≤ 4098) × PrintsLast s (take n lines)

-- a number that falls with each line and with each record: an answer has at most 4098 lines
abbrev pub rank : {B : Type 0} → Listing B → ℕ
rank listing = (listing.count - listing.given) + elim listing.job [ None ↦ 0 | Some job ↦ 4099 * (length job.bytes.now + 1) ]

-- what a listing has left after a step it had left before it, and the number falls
pub record Refilled {B : Type 0} (cost : B → Cost) (old new : Listing B) : Type 0 where
  pub lines : (lines : List Line) → HasLeft cost new lines → HasLeft cost old lines
  pub fewer : rank new < rank old
