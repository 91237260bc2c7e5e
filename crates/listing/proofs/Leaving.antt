-- What a listing has left, step after step.
use Rattle.std.proofs.Common.{◌≡◌, ℕ, suc, ◌+◌, ◌<◌, get_or, suc, ◌≤◌, List, [], ◌∷◌, drop, length, replicate, take, ap, inr, refl, ◌∙◌, arith}
use Rattle.std.proofs.lemmas.List.{drop_all, get_or-take, length-replicate, length-take, length-take-le}
use Rattle.std.proofs.Math.Seq.{drop-cons}
use Rattle.job.specs.Jobs.{State, Stops}
use Rattle.job.specs.declared.fault.FaultAt.{FaultAt}
use Rattle.lines.specs.declared.line.Line.{Line}
use Rattle.listing.specs.Answers.{fault_line}
use Rattle.listing.specs.Listing.{IsRoomy, PrintsLast}
use Rattle.matching.specs.declared.ready.Ready.{Ready}
use Rattle.matching.specs.declared.window.Window.{Window}
use Rattle.sequencing.specs.Memory.{Memory, memory}

-- the memory that a record is taken with
abbrev pub blank_memory : Memory
blank_memory =
    memory (replicate 4096 (record { channel = 0; reading = 0; earliest = 0; latest = 0; slot = 0 })) (replicate 64 (record { latest = 0; place = 0 })) (replicate 4096 0)

-- it is enough
pub blank_roomy : IsRoomy blank_memory
blank_roomy =
    record {
      windows = length-replicate {A = Window} 4096 (record { channel = 0; reading = 0; earliest = 0; latest = 0; slot = 0 });
      ready = length-replicate {A = Ready} 64 (record { latest = 0; place = 0 });
      list = length-replicate {A = ℕ} 4096 0;
    }

-- where all lines that are put are given, none is pending
pub none_pending : (lines : List Line) (count given : ℕ) → count ≤ given → drop given (take count lines) ≡ []
none_pending lines count given all = drop_all given (take count lines) (omega (arith, length-take count lines))

-- the line of a fault is the last
pub fault_last : (s : State) (m : Memory) (e : FaultAt) → IsRoomy m → Stops s m e.fault → e.offset ≡ s.offset → PrintsLast s (fault_line e ∷ [])
fault_last s m e roomy stops at =
    let same : e ≡ record { fault = e.fault; offset = s.offset } = rw at refl in
    inr (m, e.fault, roomy, stops, ap (λ x. fault_line x ∷ []) same)

-- the next line that is pending
pub next_pending : (lines : List Line) (count given : ℕ) (d : Line) → given < count → count ≤ length lines →
    drop given (take count lines) ≡ get_or lines given d ∷ drop (given + 1) (take count lines)
next_pending lines count given d here room =
    let step : suc given ≡ given + 1 = omega arith in
    drop-cons (take count lines) given d (omega (arith, length-take-le count lines room))
    ∙ ap (λ l. l ∷ drop (suc given) (take count lines)) (get_or-take count lines given d here) ∙ ap (λ k. get_or lines given d ∷ drop k (take count lines)) step
