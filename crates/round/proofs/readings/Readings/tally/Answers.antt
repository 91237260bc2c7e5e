-- Before the first slot.
use Rattle.std.proofs.Common.{refl, arith}
use Rattle.round.proofs.Counts.{counted_none}
use Rattle.round.proofs.readings.Readings.tally.Goals as goal

pub loop-i-init : goal.loop-i-init
loop-i-init c = (refl, counted_none 64 c.args.list.now, λ j h. absurd (omega arith))
