-- What is left is refused as the changed row is refused as a table.
use Rattle.std.proofs.Common.{◌≡◌, ◌<◌, false, length, nat_lt, rules, set, ap, ◌∙◌, arith}
use Rattle.std.specs.Prelude.{◌==◌, ◌||◌}
use Rattle.std.proofs.lemmas.Result.{err_from_is_err_and}
use Rattle.round.specs.Lists.{readings}
use Rattle.rows.proofs.Numbers.{trial_as_table}
use Rattle.rows.specs.Rows.{changed, has_above, table_refused}
use Rattle.rows.proofs.trial.Trial.check.Goals as goal

pub returns-in_err-table : goal.returns-in_err-table
returns-in_err-table c =
    let row = c.args.row.now in
    let long : length row ≡ 64 = search rules in
    let range : (c.args.readings == 0 || nat_lt 4096 c.args.readings) ≡ false = search rules in
    let none : has_above row ≡ false = search rules in
    let there : 0 < readings row c.args.channel = search rules in
    let same : changed row c.args.channel c.args.readings ≡ set c.in-Ok.changed c.from-place.result c.args.readings = search rules in
    let p = err_from_is_err_and c.from_residual.result c.from_residual.ensures.1 in
    rw (p.1, p.2) (trial_as_table row c.args.channel c.args.readings long (omega arith) range none there ∙ ap table_refused same ∙ c.in_err-table.ensures.0, tt)
