-- What may stand by the slot after this one.
use Rattle.std.proofs.Common.{◌+◌}
use Rattle.windows.proofs.CountLimits.{MostFrom}
use Rattle.windows.proofs.allowed.Counts.put_most.Given as goal

abbrev pub invariant-loop-slot : goal.invariant-loop-slot
invariant-loop-slot g l = MostFrom (g.P.Penalty.cost l.self.penalty.now) l.self.table.now.by_channel l.self.bound l.self.channel (l.slot + 1) l.count l.most
