-- The line that is given comes before those that are left.
use Rattle.std.proofs.Common.{◌∷◌, ◌++◌, ap, get_or, sym, ◌∙◌, arith}
use Rattle.listing.proofs.Leaving.{next_pending}
use Rattle.listing.proofs.state.Listing.next.Goals as goal

pub returns-clause-line : goal.returns-clause-line
returns-clause-line g c =
    let now = c.loop-self.self in
    λ lines left.
    let own = c.index-self-self.result in
    let line = get_or now.lines now.given own in
    c.loop-self.invariant.0 (line ∷ lines) (left.0, ap (λ ls. line ∷ ls) left.1 ∙ ap (λ ls. ls ++ left.0) (sym (next_pending now.lines now.count now.given own c.loop-self-test.false (omega (arith, now.long, now.within)))), left.2)
