-- The next reading of the channel becomes ready, for which there is room.
use Rattle.std.proofs.Common.{take, refl, arith}
use Rattle.matching.specs.Windows.{blank}
use Rattle.matching.proofs.Queueing.{coming_admitted, coming_queued, coming_room, drop_later}
use Rattle.matching.proofs.round.Round.admit_next.Goals as goal

pub unwrap-requires : goal.unwrap-requires
unwrap-requires c =
    let s = c.args.self.now in
    let h = c.args.ready.now in
    let q = c.requires in
    let room = coming_room (blank s.windows.now) s.waiting h.items.now h.len h.sound q.queued c.args.channel c.args.channel c.args.slot c.in-Some.reading q.channel refl (c.in-Some.ensures (take h.len h.items.now)) in
    let long = q.queued.room in
    let told = c.push.ensures.full in
    grind arith

pub returns-in-Some-clause-admitted : goal.returns-in-Some-clause-admitted
returns-in-Some-clause-admitted c =
    let s = c.args.self.now in
    let h = c.args.ready.now in
    let g = c.push.new.self in
    let q = c.requires in
    coming_admitted (blank s.windows.now) s.waiting h.items.now h.len h.sound q.queued c.args.channel c.from.result c.args.slot c.in-Some.reading q.channel c.from.ensures (c.in-Some.ensures (take h.len h.items.now))
    g.items.now g.len (rw c.unwrap.ensures at c.push.ensures.pushed)

pub returns-in-Some-clause-kept : goal.returns-in-Some-clause-kept
returns-in-Some-clause-kept c =
    let s = c.args.self.now in
    let h = c.args.ready.now in
    let g = c.push.new.self in
    let q = c.requires in
    let told = rw c.unwrap.ensures at c.push.ensures.pushed in
    let room = coming_room (blank s.windows.now) s.waiting h.items.now h.len h.sound q.queued c.args.channel c.args.channel c.args.slot c.in-Some.reading q.channel refl (c.in-Some.ensures (take h.len h.items.now)) in
    record {
      queued = coming_queued (blank s.windows.now) s.waiting h.items.now h.len h.sound q.queued c.args.channel c.from.result c.args.slot c.in-Some.reading q.channel c.from.ensures (c.in-Some.ensures (take h.len h.items.now))
          g.items.now g.len told;
      windows = refl;
      rest = drop_later h.items.now g.items.now g.len 64 (omega (arith, told.more, room)) told.rest;
    }
