-- The root table's rule: one test that the checker computes over all of its entries.
use Rattle.std.proofs.Common.{refl}
use Rattle.penalty.proofs.Squares.{root_table_lem}
use Rattle.penalty.proofs.root_table.roots.Goals as goal

pub returns : goal.returns
returns c = root_table_lem _ refl refl
