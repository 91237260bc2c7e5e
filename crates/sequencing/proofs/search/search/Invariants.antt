-- The search has come to `low` and `high`; the memory keeps its lengths, and what lies past the ready places.
use Rattle.std.proofs.Common.{◌≡◌, ◌-◌, drop}
use Rattle.sequencing.proofs.Searching.{SearchedTo}
use Rattle.sequencing.proofs.search.search.Given as goal

abbrev pub invariant-loop-low : goal.invariant-loop-low
invariant-loop-low g l =
    SearchedTo (g.P.Penalty.cost l.penalty) l.readings.by_channel l.low l.high l.below × (drop 64 l.ready ≡ drop 64 l.fn.ready)

abbrev pub decreases-loop-low : goal.decreases-loop-low
decreases-loop-low g l = l.high - l.low
