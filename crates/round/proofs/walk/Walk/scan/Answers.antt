-- One channel more, and the end of the channels.
use Rattle.std.proofs.Common.{◌≡◌, sum, ap, arith}
use Rattle.round.specs.Lists.{Moment, readings, cost_at}
use Rattle.round.proofs.Walks.{found_skip, found_more, past_slot}
use Rattle.round.proofs.walk.Walk.scan.Goals as goal
use Rattle.round.proofs.walk.Walk.scan.Goals.{then-of-gt0, else-of-gt0}

pub loop-channel-preserved : goal.loop-channel-preserved
loop-channel-preserved g c list inside agree before =
    let f = g.P.Penalty.cost c.args.self.now.penalty.now in
    let t = c.args.self.now.readings.now.by_channel in
    let slot = c.args.slot in
    let channel = c.loop-channel.channel in
    let old = c.loop-channel.invariant list inside agree before in
    elim c.if-of-gt0.branch [
      | then-of-gt0 w ↦
          let is : w.cost_after-cost.result ≡ cost_at f t list slot channel = rw w.cost_after-cost.ensures (ap (λ x. f (sum t) channel (readings t channel) x slot) (agree channel)) in
          rw (w.found-is, w.larger.ensures)
          (found_more (cost_at f t list) (Moment t) slot channel (inside, omega arith) w.cost_after-cost.result is c.loop-channel.found old)
      | else-of-gt0 w ↦
          rw w.found-is (found_skip (cost_at f t list) (Moment t) slot channel (λ m. omega (arith, m.1)) c.loop-channel.found old)
    ]

pub returns : goal.returns
returns g c list inside agree before =
    let end : c.loop-channel.channel ≡ 64 = omega arith in
    past_slot _ c.args.self.now.readings.now.by_channel (omega arith) c.args.slot c.loop-channel.found
    (rw end at (c.loop-channel.invariant list inside agree before))
