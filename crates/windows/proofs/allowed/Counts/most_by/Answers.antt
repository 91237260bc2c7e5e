-- The count after, or what is found below it.
use Rattle.std.proofs.Common.{refl}
use Rattle.std.proofs.lemmas.Bool.{false≢true}
use Rattle.windows.proofs.Searches.{most_below, most_same}
use Rattle.windows.proofs.allowed.Counts.most_by.Goals as goal

pub returns-then-allows : goal.returns-then-allows
returns-then-allows g c =
    let own = c.args.self.now in
    most_same (g.P.Penalty.cost own.penalty.now) own.table.now.by_channel own.bound c.args.slot own.channel c.args.after (c.if-allows.ensures.0 refl)

pub returns : goal.returns
returns g c =
    let own = c.args.self.now in
    rw c.unwrap_or.ensures
    (most_below (g.P.Penalty.cost own.penalty.now) own.table.now.by_channel own.bound c.args.slot own.channel c.args.after (g.met.P.Penalty.valley own.penalty.now)
    (λ a. false≢true (c.if-allows.ensures.1 a)) c.requires.some c.highest_below.result c.highest_below.ensures)
