-- None is allowed above the count before, but one below it.
use Rattle.std.proofs.lemmas.Bool.{false≢true}
use Rattle.windows.proofs.Searches.{fewest_below}
use Rattle.windows.proofs.allowed.Counts.fewest_by.Goals as goal

pub returns : goal.returns
returns g c =
    let own = c.args.self.now in
    fewest_below (g.P.Penalty.cost own.penalty.now) own.table.now.by_channel own.bound c.args.slot own.channel c.args.before (g.met.P.Penalty.valley own.penalty.now)
    (λ a. false≢true (c.if-allows.ensures.1 a)) c.in_ok-highest_below.field-0 c.in_ok-highest_below.ensures
