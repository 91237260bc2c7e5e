-- One line more, and the whole listing.
use Rattle.listing.proofs.Written.{written_all, written_more, written_none}
use Rattle.listing.specs.Listing.{HasLeft, IsListing}
use Rattle.listing.proofs.printing.print_job.Goals as goal

pub loop-line-init : goal.loop-line-init
loop-line-init g c =
    let cost = g.B.Penalty.cost in
    written_none (IsListing (cost c.args.bottom) c.args.file.now) (HasLeft cost c.new-listing.result) (g.W.Write.contents c.args.out.now) c.new-listing.ensures

pub loop-line-preserved : goal.loop-line-preserved
loop-line-preserved g c =
    let cost = g.B.Penalty.cost in
    let contents = g.W.Write.contents in
    let now = c.loop-line in
    written_more (IsListing (cost c.args.bottom) c.args.file.now) (HasLeft cost now.listing) (HasLeft cost c.next.new.self)
    (contents c.args.out.now) (contents now.out) (contents c.print.new.out) c.in-Some.line now.invariant c.in-Some.ensures.line c.in_ok-print.ensures

pub returns : goal.returns
returns g c =
    let cost = g.B.Penalty.cost in
    let contents = g.W.Write.contents in
    let now = c.loop-line in
    written_all (IsListing (cost c.args.bottom) c.args.file.now) (HasLeft cost now.listing) (contents c.args.out.now) (contents now.out) now.invariant c.in_default.ensures.line
