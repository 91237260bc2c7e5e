-- Rows of zeros may stand in a table.
use Rattle.penalty.proofs.OwnRows.{zeros_row}
use Rattle.penalty.proofs.own_table.OwnTable.zeros.Goals as goal

pub invariant_of-result : goal.invariant_of-result
invariant_of-result c = record { ahead_row = zeros_row; behind_row = zeros_row }
