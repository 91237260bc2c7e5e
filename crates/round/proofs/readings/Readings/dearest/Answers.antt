-- The dearest moments of a list are one list, whether the call fills the heap or is refused.
use Rattle.std.proofs.Common.{length}
use Rattle.round.proofs.Offering.{dearest_are_one}
use Rattle.round.proofs.readings.Readings.dearest.Goals as goal

pub returns-in_err-check-clause-one : goal.returns-in_err-check-clause-one
returns-in_err-check-clause-one g c =
    dearest_are_one (g.P.Penalty.cost c.args.penalty.now) c.args.self.now.by_channel c.args.list.now (length c.args.heap.now.items.now)

pub returns-clause-one : goal.returns-clause-one
returns-clause-one g c =
    dearest_are_one (g.P.Penalty.cost c.args.penalty.now) c.args.self.now.by_channel c.args.list.now (length c.args.heap.now.items.now)
