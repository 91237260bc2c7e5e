-- What the test of a row says.
use Rattle.rows.proofs.Numbers.{above_is}
use Rattle.rows.proofs.checks.has_above.Goals as goal

pub returns : goal.returns
returns c = above_is c.args.row.now c.within_limit.result c.within_limit.ensures
