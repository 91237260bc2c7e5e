-- No count from this one on but below the given one is allowed.
use Rattle.std.proofs.Common.{ℕ, ◌<◌, ◌≤◌}
use Rattle.windows.specs.Allowed.{Allowed}
use Rattle.windows.proofs.allowed.Counts.highest_below.Given as goal

abbrev pub invariant-loop-below : goal.invariant-loop-below
invariant-loop-below g l =
    (x : ℕ) → x < l.count → l.below ≤ x → Allowed (g.P.Penalty.cost l.self.penalty.now) l.self.table.now.by_channel l.self.bound l.slot l.self.channel x → ⊥
