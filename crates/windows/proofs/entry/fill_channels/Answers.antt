-- One channel more, and all of them.
use Rattle.std.proofs.Common.{◌<◌, length, arith}
use Rattle.windows.proofs.Channels.{channels_all, channels_blocked, channels_empty, channels_first, channels_unblocked}
use Rattle.windows.proofs.entry.fill_channels.Goals as goal
use Rattle.windows.proofs.entry.fill_channels.Goals.{then-readings-gt0+in-Ok, then-readings-gt0+in-Err, else-readings-gt0}

pub loop-channel-preserved : goal.loop-channel-preserved
loop-channel-preserved g c =
    let f = g.P.Penalty.cost c.args.penalty.now in
    let t = c.args.table.now.by_channel in
    let b = c.args.bound in
    let old = c.args.places.now in
    let l = c.loop-channel in
    let inside : l.channel < length t = omega arith in
    elim c.if-readings-gt0.branch [
      | then-readings-gt0+in-Ok w ↦
          let told = w.fill_channel.ensures in
          rw (w.places-is, w.blocked-is, c.from-start.ensures, c.readings-readings.ensures)
          (channels_unblocked f t b old l.channel l.start l.blocked l.places inside l.invariant w.fill_channel.new.places w.in-Ok.ensures.unblocked (record { long = w.fill_channel.auto.places; records = λ j reading h. told.filled j reading; before = told.before; after = told.after }))
      | then-readings-gt0+in-Err w ↦
          rw (w.places-is, w.blocked-is, c.from-start.ensures, c.readings-readings.ensures)
          (channels_blocked f t b old l.channel l.start l.blocked l.places inside l.invariant w.in-Err.slot w.first_of_both.result w.in-Err.ensures.blocked w.first_of_both.ensures)
      | else-readings-gt0 w ↦
          rw (w.places-is, w.blocked-is, c.from-start.ensures, c.readings-readings.ensures)
          (channels_empty f t b old l.channel l.start l.blocked l.places inside l.invariant (omega arith))
    ]

pub returns-in-Some-clause-blocked : goal.returns-in-Some-clause-blocked
returns-in-Some-clause-blocked g c =
    let l = c.loop-channel in
    let t = c.args.table.now.by_channel in
    channels_first (g.P.Penalty.cost c.args.penalty.now) t c.args.bound c.args.places.now l.channel l.start c.requires (omega arith) c.in-Some.moment l.places
    (rw c.in-Some.is at l.invariant)

pub returns-in-None-clause-filled : goal.returns-in-None-clause-filled
returns-in-None-clause-filled g c =
    let l = c.loop-channel in
    let t = c.args.table.now.by_channel in
    channels_all (g.P.Penalty.cost c.args.penalty.now) t c.args.bound c.args.places.now l.channel l.start c.requires (omega arith) l.places
    (rw c.in-None.is at l.invariant)
