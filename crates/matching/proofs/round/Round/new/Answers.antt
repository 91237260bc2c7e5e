-- The records without slots.
use Rattle.std.proofs.Common.{◌≡◌, ap, ◌∙◌, subst}
use Rattle.matching.specs.Queues.{Starts}
use Rattle.matching.specs.Windows.{blank}
use Rattle.matching.proofs.Blanks.{blank-blank}
use Rattle.matching.proofs.Ends.{arranged_blank}
use Rattle.matching.proofs.round.Round.new.Goals as goal

pub first_places-waiting-requires : goal.first_places-waiting-requires
first_places-waiting-requires c =
    let ws = c.args.windows.now in
    rw c.clear_slots.ensures (arranged_blank (blank ws) (arranged_blank ws c.requires))

pub invariant_of-result : goal.invariant_of-result
invariant_of-result c =
    let ws = c.args.windows.now in
    record { arranged = rw c.clear_slots.ensures (arranged_blank (blank ws) (arranged_blank ws c.requires)) }

pub returns-clause-starts : goal.returns-clause-starts
returns-clause-starts c =
    let ws = c.args.windows.now in
    let same : blank c.clear_slots.new.windows ≡ blank ws = ap blank c.clear_slots.ensures ∙ blank-blank ws in
    subst (λ bs. Starts bs c.first_places-waiting.result) same c.first_places-waiting.ensures
