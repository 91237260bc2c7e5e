-- The refusal of a row is that of the row and the list.
use Rattle.std.proofs.lemmas.Result.{err_from_is_err_and}
use Rattle.round.proofs.walk.audit.Goals as goal

pub returns-in_err-readings : goal.returns-in_err-readings
returns-in_err-readings g c =
    let p = err_from_is_err_and c.from_residual.result c.from_residual.ensures.1 in
    rw (p.1, p.2) (c.in_err-readings.ensures.refused c.args.list.now)
