-- One slot before, and the first one.
use Rattle.std.proofs.Common.{◌≡◌, ◌+◌, ◌-◌, arith}
use Rattle.windows.proofs.CountLimits.{most_step}
use Rattle.windows.proofs.Ends.{some_allowed}
use Rattle.windows.proofs.allowed.Counts.put_most.Goals as goal

pub most_by-count-requires-clause-some : goal.most_by-count-requires-clause-some
most_by-count-requires-clause-some g c =
    let own = c.args.self.now in
    some_allowed (g.P.Penalty.cost own.penalty.now) own.table.now.by_channel own.bound c.loop-slot.slot own.channel (omega arith, c.requires.channel) (c.requires.unblocked c.loop-slot.slot)

pub loop-slot-preserved : goal.loop-slot-preserved
loop-slot-preserved g c =
    let own = c.args.self.now in
    let k = c.loop-slot.slot in
    let before = most_step (g.P.Penalty.cost own.penalty.now) own.table.now.by_channel own.bound own.channel k _ _ _ (omega arith) (omega arith)
    c.loop-slot.invariant c.most_by-count.ensures in
    let same : k - 1 + 1 ≡ k = omega arith in
    rw (same, c.from.ensures) before

pub returns-2 : goal.returns-2
returns-2 g c =
    let own = c.args.self.now in
    let from = most_step (g.P.Penalty.cost own.penalty.now) own.table.now.by_channel own.bound own.channel c.loop-slot.slot _ _ _ (omega arith) (omega arith)
    c.loop-slot.invariant c.most_by-count.ensures in
    rw c.from.ensures (λ i h. from.each i (omega arith) h)
