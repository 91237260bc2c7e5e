-- Open windows are arranged; once they are placed, and the channels written, the list is that of the rules.
use Rattle.std.proofs.Common.{arith}
use Rattle.sequencing.proofs.Making.{sequence_made, slots_in_round}
use Rattle.windows.proofs.Arranged.{open_arranged}
use Rattle.sequencing.proofs.sequence.sequence.Goals as goal

pub place_readings-requires-clause-windows : goal.place_readings-requires-clause-windows
place_readings-requires-clause-windows g c =
    let readings = c.args.readings.now in
    open_arranged (g.P.Penalty.cost c.args.penalty.now) readings.by_channel c.args.bound (omega (arith, readings.summed, readings.few)) readings.long c.open_windows.new.windows c.in_ok-open_windows.ensures.filled

pub write_list-requires-clause-slots : goal.write_list-requires-clause-slots
write_list-requires-clause-slots g c =
    let told = c.in_ok-place_readings.ensures in
    slots_in_round c.open_windows.new.windows c.place_readings.new.windows told.windows told.placed.1 told.placed.0

pub returns-clause-list : goal.returns-clause-list
returns-clause-list g c =
    let told = c.in_ok-place_readings.ensures in
    sequence_made c.open_windows.new.windows c.place_readings.new.windows told.windows told.placed.1
    (g.P.Penalty.cost c.args.penalty.now) c.args.readings.now.by_channel c.args.bound c.write_list.new.list c.in_ok-open_windows.ensures.filled
    (omega arith) c.write_list.ensures.channels
