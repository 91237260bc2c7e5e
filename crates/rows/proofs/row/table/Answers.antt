-- A row that is no table, and one that is.
use Rattle.std.proofs.Common.{ap, subst, sym, ◌∙◌, arith}
use Rattle.round.specs.Refusals.{RowRefused}
use Rattle.round.specs.declared.refusal.Refusal.TheVariants.{RowLength, ReadingsAboveLimit, TotalAboveLimit}
use Rattle.rows.proofs.Numbers.{refused_table, taken_table}
use Rattle.rows.specs.Rows.{table_refused}
use Rattle.rows.proofs.row.table.Goals as goal

pub returns-in-Ok : goal.returns-in-Ok
returns-in-Ok c =
    let t = c.in-Ok.readings in
    (ap table_refused (sym c.in-Ok.ensures) ∙ taken_table t.by_channel t.long (omega (arith, t.summed, t.few)), c.in-Ok.ensures)

pub returns-in-Err-RowLength : goal.returns-in-Err-RowLength
returns-in-Err-RowLength c =
    let e = c.in-Err-RowLength in
    (refused_table c.args.row.now RowLength (subst (RowRefused c.args.row.now) e.field-0-is e.ensures), tt)

pub returns-in-Err-ReadingsAboveLimit : goal.returns-in-Err-ReadingsAboveLimit
returns-in-Err-ReadingsAboveLimit c =
    let e = c.in-Err-ReadingsAboveLimit in
    (refused_table c.args.row.now ReadingsAboveLimit (subst (RowRefused c.args.row.now) e.field-0-is e.ensures), tt)

pub returns-in-Err-TotalAboveLimit : goal.returns-in-Err-TotalAboveLimit
returns-in-Err-TotalAboveLimit c =
    let e = c.in-Err-TotalAboveLimit in
    (refused_table c.args.row.now TotalAboveLimit (subst (RowRefused c.args.row.now) e.field-0-is e.ensures), tt)
