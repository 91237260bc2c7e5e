-- One channel more.
use Rattle.std.proofs.Common.{◌≡◌, ◌≤◌, sum, length, ap, sym, arith}
use Rattle.std.proofs.lemmas.List.{length-set}
use Rattle.roster.specs.declared.call.Call.TheVariants.{Add}
use Rattle.job.proofs.Adding.{adds_all, adds_first, adds_more, adds_same}
use Rattle.job.proofs.question.put_adds.Goals.{then-readings-gt0, else-readings-gt0}
use Rattle.job.proofs.question.put_adds.Goals as goal

pub loop-channel-init : goal.loop-channel-init
loop-channel-init c = adds_first c.args.readings.now.by_channel c.args.calls.now c.args.readings.now.long

pub loop-channel-preserved : goal.loop-channel-preserved
loop-channel-preserved c =
    let t = c.args.readings.now in
    let l = c.loop-channel in
    let here = c.loop-channel-test.true in
    let few : sum t.by_channel ≤ 4096 = omega (arith, t.summed, t.few) in
    elim c.if-readings-gt0.branch [
      | then-readings-gt0 w ↦ rw (w.calls-is, w.count-is) (adds_more t.by_channel c.args.calls.now l.calls l.channel l.count l.invariant here c.of-readings.result few c.of-readings.ensures w.if-readings-gt0.true (omega (arith, l.invariant.few, here, ap length w.calls-is, c.if-readings-gt0.array_long, length-set l.calls l.count (Add l.channel c.of-readings.result))))
      | else-readings-gt0 w ↦ rw (w.calls-is, w.count-is) (adds_same t.by_channel c.args.calls.now l.calls l.channel l.count l.invariant here (omega (arith, c.of-readings.ensures, w.if-readings-gt0.false)))
    ]

pub returns : goal.returns
returns c =
    let t = c.args.readings.now in
    let l = c.loop-channel in
    let all : l.channel ≡ 64 = omega (arith, c.loop-channel-test.false, l.auto.channel-end) in
    adds_all t.by_channel c.args.calls.now l.calls l.count t.long (rw (sym all) l.invariant)
