-- The lines before this one are written.
use Rattle.listing.proofs.Written.{WrittenTo}
use Rattle.listing.specs.Listing.{HasLeft, IsListing}
use Rattle.listing.specs.Steps.{rank}
use Rattle.listing.proofs.printing.print_job.Given as goal

abbrev pub invariant-loop-line : goal.invariant-loop-line
invariant-loop-line g l =
    WrittenTo (IsListing (g.B.Penalty.cost l.fn.bottom) l.file) (HasLeft g.B.Penalty.cost l.listing) (g.W.Write.contents l.fn.out) (g.W.Write.contents l.out)

abbrev pub decreases-loop-line : goal.decreases-loop-line
decreases-loop-line g l = rank l.listing
