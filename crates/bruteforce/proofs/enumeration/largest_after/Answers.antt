-- One channel more.
use Rattle.std.proofs.Common.{◌≡◌, max, rules, arith}
use Rattle.round.specs.Lists.{Channel, cost_at}
use Rattle.bruteforce.proofs.Over.{over_channel, over_no_channel}
use Rattle.bruteforce.proofs.enumeration.largest_after.Goals as goal
use Rattle.bruteforce.proofs.enumeration.largest_after.Goals.{then-of-gt0, else-of-gt0}

pub loop-channel-preserved : goal.loop-channel-preserved
loop-channel-preserved g c =
    let t = c.args.readings.now.by_channel in
    let cost = cost_at (g.P.Penalty.cost c.args.penalty.now) t c.args.list.now in
    elim c.if-of-gt0.branch [
      | then-of-gt0 w ↦
          let larger : w.max-largest.result ≡ max c.loop-channel.largest w.cost_after.result = search rules in
          rw w.largest-is (over_channel cost (Channel t) c.args.slot _ _ _ _ (omega arith) w.cost_after.ensures larger c.loop-channel.invariant)
      | else-of-gt0 w ↦ rw w.largest-is (over_no_channel cost (Channel t) c.args.slot _ _ (λ there. omega arith) c.loop-channel.invariant)
    ]
