-- The windows before this one have their rows.
use Rattle.listing.proofs.Ordering.{RowsTo}
use Rattle.listing.proofs.rows.put_rows.Given as goal

abbrev pub invariant-loop-window : goal.invariant-loop-window
invariant-loop-window l = RowsTo l.windows l.rows l.window-index
