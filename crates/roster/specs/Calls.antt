-- What each call on a roster does and answers.
use Rattle.std.specs.Prelude.{◌≡◌, ℕ, List, Result}
use Rattle.penalty.specs.Cost.{Cost}
use Rattle.sequencing.specs.Answers.{IsBest, IsListed}
use Rattle.sequencing.specs.Memory.{Memory}
use Rattle.sequencing.specs.Refusals.{MayRefuse}
use Rattle.roster.specs.Book.{entered, number, refused}
use Rattle.roster.specs.declared.call.Answer.{Answer}
use Rattle.roster.specs.declared.call.Answer.TheVariants as answer
use Rattle.roster.specs.declared.call.Call.{Call}
use Rattle.roster.specs.declared.call.Call.TheVariants as call
use Rattle.roster.specs.declared.refusal.Refusal.{Refusal}

-- an add, change or removal: the entries t become t' exactly as the book says
abbrev pub Enters : Call → List ℕ → List ℕ → Result (Unit {0}) Refusal → Type 0
Enters call t t' = MayRefuse (refused t call) (λ _. t' ≡ entered t call) number (t' ≡ t)

-- what an accepted call answers, with the memory that it is lent before and after it
abbrev pub Answered : Cost → List ℕ → Call → Memory → Memory → Answer → Type 0
Answered f t (call.List b lent) m m' (answer.Listed a) = IsListed f t b m m' a
Answered f t (call.Best lent) m m' (answer.Best a) = IsBest f t m m' a
Answered f t (call.Add c n) m m' answer.Done = Unit {0}
Answered f t (call.Change c n) m m' answer.Done = Unit {0}
Answered f t (call.Remove c) m m' answer.Done = Unit {0}
Answered f t other m m' a = ⊥
