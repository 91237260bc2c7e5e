-- The worked bridges.
use Rattle.worked_bridges.proofs.Examples.{worked_bridges_lem}
use Rattle.worked_bridges.proofs.worked.worked_bridges.Goals as goal

pub returns : goal.returns
returns c = worked_bridges_lem
