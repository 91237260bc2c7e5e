-- One reading more.
use Rattle.std.proofs.Common.{arith}
use Rattle.windows.proofs.Places.{filled_more}
use Rattle.windows.proofs.allowed.Counts.fill_channel.Goals as goal

pub loop-before-preserved : goal.loop-before-preserved
loop-before-preserved g c =
    let own = c.args.self.now in
    rw c.from.ensures
    (filled_more (g.P.Penalty.cost own.penalty.now) own.table.now.by_channel own.bound own.channel c.args.start c.args.places.now
    c.loop-before.before c.loop-before.places c.record.result (omega arith) c.requires.room c.record.ensures c.loop-before.invariant)
