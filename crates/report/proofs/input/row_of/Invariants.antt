-- The row has the numbers of the pairs so far.
use Rattle.std.proofs.Common.{◌≡◌, map, w16}
use Rattle.std.specs.Int.{from_be_bytes}
use Rattle.report.proofs.input.row_of.Given as goal

abbrev pub invariant-loop-pair : goal.invariant-loop-pair
invariant-loop-pair l = l.row.items ≡ map (from_be_bytes w16) (map (λ p. p.now) l.yielded)
