-- Rows in which nothing is wrong may stand in a table.
use Rattle.std.proofs.Common.{◌<◌, ◌^◌, arith}
use Rattle.std.proofs.lemmas.List.Elements.{All-from_get_or}
use Rattle.penalty.proofs.OwnRows.{accepted_row}
use Rattle.penalty.specs.declared.side.Side.TheVariants.{Ahead, Behind}
use Rattle.penalty.proofs.own_table.OwnTable.new.Goals as goal

pub invariant_of-result : goal.invariant_of-result
invariant_of-result c =
    let row = accepted_row c.args.ahead.now c.args.behind.now c.in-Ok.ensures in
    record {
      ahead_row = row Ahead (All-from_get_or (λ n. n < 2 ^ 32) _ 0 (λ s _. omega (arith, c.type_inv.ahead s)));
      behind_row = row Behind (All-from_get_or (λ n. n < 2 ^ 32) _ 0 (λ s _. omega (arith, c.type_inv.behind s)));
    }
