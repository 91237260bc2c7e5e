-- The cost of the new pile is that of what the job holds.
use Rattle.std.proofs.Common.{sym}
use Rattle.job.proofs.held.Held.ask.Goals as goal

pub returns : goal.returns
returns g c = rw (sym c.pile.ensures, sym c.readings-readings.ensures) c.ask.ensures
