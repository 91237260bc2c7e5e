-- One call more.
use Rattle.std.proofs.Common.{◌∙◌, length, ap, refl, sym, arith, rules}
use Rattle.roster.specs.Series.{list_of, ready_of, windows_of}
use Rattle.sequencing.specs.Memory.{memory}
use Rattle.roster.proofs.Playing.{is_lent, played_more}
use Rattle.roster.proofs.Rooms.{end_within}
use Rattle.roster.proofs.series.play.Goals as goal

pub slice_bounds-call-end : goal.slice_bounds-call-end
slice_bounds-call-end g c =
    let l = c.loop-i in
    let within = end_within windows_of c.args.calls.now l.i l.start.windows c.with-end.result.windows (length c.args.windows.now) c.loop-i-test.true l.invariant.0.windows_start (omega (arith, c.with-end.ensures.windows, ap (λ lent. lent.windows) c.lent.ensures)) (c.if-not-is_enough.ensures.0 refl).windows in
    search rules

pub slice_bounds-call-end-in-loop-i : goal.slice_bounds-call-end-in-loop-i
slice_bounds-call-end-in-loop-i g c =
    let l = c.loop-i in
    let within = end_within ready_of c.args.calls.now l.i l.start.ready c.with-end.result.ready (length c.args.ready.now) c.loop-i-test.true l.invariant.0.ready_start (omega (arith, c.with-end.ensures.ready, ap (λ lent. lent.ready) c.lent.ensures)) (c.if-not-is_enough.ensures.0 refl).ready in
    search rules

pub slice_bounds-call-end-in-loop-i-2 : goal.slice_bounds-call-end-in-loop-i-2
slice_bounds-call-end-in-loop-i-2 g c =
    let l = c.loop-i in
    let within = end_within list_of c.args.calls.now l.i l.start.list c.with-end.result.list (length c.args.list.now) c.loop-i-test.true l.invariant.0.list_start (omega (arith, c.with-end.ensures.list, ap (λ lent. lent.list) c.lent.ensures)) (c.if-not-is_enough.ensures.0 refl).list in
    search rules

pub loop-i-preserved : goal.loop-i-preserved
loop-i-preserved g c =
    let own = c.args in
    let calls = own.calls.now in
    let l = c.loop-i in
    let was = l.invariant.0 in
    let end = c.with-end in
    let new = c.call.new in
    let told = c.call.ensures in
    let here = c.loop-i-test.true in
    let enough = c.if-not-is_enough.ensures.0 refl in
    let size = c.lent.ensures in (
      played_more calls l.i here l.start end.result (memory own.windows.now own.ready.now own.list.now) (memory l.windows l.ready l.list) (memory new.windows new.ready new.list)
          (is_lent windows_of calls l.i l.start.windows end.result.windows own.windows.now l.windows new.windows here was.windows_start (omega (arith, end.ensures.windows, ap (λ lent. lent.windows) size)) enough.windows l.auto.windows was.windows_rest c.call.auto.windows)
          (is_lent ready_of calls l.i l.start.ready end.result.ready own.ready.now l.ready new.ready here was.ready_start (omega (arith, end.ensures.ready, ap (λ lent. lent.ready) size)) enough.ready l.auto.ready was.ready_rest c.call.auto.ready)
          (is_lent list_of calls l.i l.start.list end.result.list own.list.now l.list new.list here was.list_start (omega (arith, end.ensures.list, ap (λ lent. lent.list) size)) enough.list l.auto.list was.list_rest c.call.auto.list)
          (g.P.Penalty.cost own.penalty) own.replies.now l.replies l.roster.readings.by_channel new.self.readings.by_channel c.call.result was
          (omega (arith, enough.replies, l.auto.replies)) (rw (sym l.invariant.1) told.right) told.entries,
      told.penalty ∙ l.invariant.1,
    )
