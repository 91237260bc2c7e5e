-- The slots at the start by which the reading may not stand, and those by which it is not needed.
use Rattle.windows.proofs.CountLimits.{earliest_is, fewest_parted, latest_is, most_parted}
use Rattle.windows.proofs.allowed.Counts.window.Goals as goal

pub slots_below-requires-clause-parted : goal.slots_below-requires-clause-parted
slots_below-requires-clause-parted g c =
    let own = c.args.self.now in
    rw c.total-slots.ensures (most_parted (g.P.Penalty.cost own.penalty.now) own.table.now.by_channel own.bound own.channel c.args.limits.now.most c.requires.limits.most c.args.reading c.requires.reading)

pub slots_below-requires-2-clause-parted : goal.slots_below-requires-2-clause-parted
slots_below-requires-2-clause-parted g c =
    let own = c.args.self.now in
    rw c.total-slots.ensures (fewest_parted (g.P.Penalty.cost own.penalty.now) own.table.now.by_channel own.bound own.channel c.args.limits.now.fewest c.requires.limits.fewest c.args.reading c.requires.reading)

pub returns : goal.returns
returns g c =
    let own = c.args.self.now in
    let f = g.P.Penalty.cost own.penalty.now in
    let t = own.table.now.by_channel in
    let early = rw c.total-slots.ensures at c.slots_below.ensures in
    let needed = rw c.total-slots.ensures at c.slots_below-2.ensures in (
      rw c.max-earliest.ensures (earliest_is f t own.bound own.channel c.args.limits.now.most c.requires.limits.most c.args.reading c.requires.reading c.slots_below.result early),
      rw (c.min-latest.ensures, c.total-slots.ensures)
          (latest_is f t own.bound own.channel c.args.limits.now.fewest c.requires.limits.fewest c.args.reading c.requires.reading c.slots_below-2.result needed),
    )
