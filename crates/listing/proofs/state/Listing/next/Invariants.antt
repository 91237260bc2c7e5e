-- What the listing has left it had left at first; the number falls with each turn.
use Rattle.std.proofs.Common.{◌≤◌, List}
use Rattle.lines.specs.declared.line.Line.{Line}
use Rattle.listing.specs.Listing.{HasLeft}
use Rattle.listing.specs.Steps.{rank}
use Rattle.listing.proofs.state.Listing.next.Given as goal

abbrev pub invariant-loop-self : goal.invariant-loop-self
invariant-loop-self g l =
    ((lines : List Line) → HasLeft g.B.Penalty.cost l.self lines → HasLeft g.B.Penalty.cost l.fn.self lines) × (rank l.self ≤ rank l.fn.self)

abbrev pub decreases-loop-self : goal.decreases-loop-self
decreases-loop-self g l = rank l.self
