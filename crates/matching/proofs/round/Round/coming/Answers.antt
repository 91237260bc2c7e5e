-- The reading that waits is not one of the channel, or comes later.
use Rattle.std.proofs.Common.{ℕ, ap, subst, arith}
use Rattle.matching.specs.Queues.{Comes}
use Rattle.matching.specs.Windows.{blank}
use Rattle.matching.proofs.Blanks.{read-blank}
use Rattle.matching.proofs.Queueing.{waits_at, waits_next}
use Rattle.matching.proofs.round.Round.coming.Goals as goal
use Rattle.matching.proofs.round.Round.coming.Goals.{then-window-channel-via-then-window-channel, then-window-channel-via-else-window-channel+then-window-slot}

pub returns-then-window-channel : goal.returns-then-window-channel
returns-then-window-channel c kept comes =
    let s = c.args.self.now in
    let bs = blank s.windows.now in
    let place = c.in_ok-place.place in
    let waits = waits_at s.waiting c.args.channel c.from.result place (omega arith) (omega arith) c.in_ok-place.was in
    let here = subst (λ (i : ℕ). Comes bs i c.args.channel c.args.slot) (waits_next bs s.waiting kept c.args.channel place waits) comes in
    let same = read-blank s.windows.now place c.from-2.result c.in_ok-window.window.now c.from-2.ensures c.in_ok-window.ensures.lookup.3.1 in
    let channel = ap (λ w. w.channel) same in
    let earliest = ap (λ w. w.earliest) same in
    elim c.then-window-channel.branch [
      | then-window-channel-via-then-window-channel w ↦ absurd (omega arith)
      | then-window-channel-via-else-window-channel+then-window-slot w ↦ absurd (omega arith)
    ]
