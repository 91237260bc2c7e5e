-- What is needed before this slot.
use Rattle.windows.proofs.CountLimits.{FewestUpto}
use Rattle.windows.proofs.allowed.Counts.put_fewest.Given as goal

abbrev pub invariant-loop-slot : goal.invariant-loop-slot
invariant-loop-slot g l = FewestUpto (g.P.Penalty.cost l.self.penalty.now) l.self.table.now.by_channel l.self.bound l.self.channel l.slot l.count l.fewest
