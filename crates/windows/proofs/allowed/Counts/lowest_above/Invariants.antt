-- No count below this one but above the given one is allowed.
use Rattle.std.proofs.Common.{ℕ, ◌<◌}
use Rattle.windows.specs.Allowed.{Allowed}
use Rattle.windows.proofs.allowed.Counts.lowest_above.Given as goal

abbrev pub invariant-loop-above : goal.invariant-loop-above
invariant-loop-above g l =
    (x : ℕ) → l.count < x → x < l.above → Allowed (g.P.Penalty.cost l.self.penalty.now) l.self.table.now.by_channel l.self.bound l.slot l.self.channel x → ⊥
