-- The ready reading that is due first, and the one after it, which waits.
use Rattle.std.proofs.Common.{refl}
use Rattle.matching.specs.Windows.{blank}
use Rattle.matching.proofs.Blanks.{channel-blank}
use Rattle.matching.proofs.Queueing.{drop_later, few_ready, taken_at, taken_queued}
use Rattle.matching.proofs.round.Round.take.Goals as goal

pub returns-clause-taken : goal.returns-clause-taken
returns-clause-taken c =
    let ws = c.args.self.now.windows.now in
    let h = c.args.ready.now in
    let g = c.pop.new.self in
    let r = c.in_ok-reading.reading in
    taken_at (blank ws) c.args.self.now.waiting h.items.now h.len h.sound c.requires r g.items.now g.len c.in_ok-reading.ensures.popped
    c.from-channel.result (channel-blank ws r.place c.from.result c.from-channel.result c.from.ensures c.from-channel.ensures)

pub returns-clause-kept : goal.returns-clause-kept
returns-clause-kept c =
    let ws = c.args.self.now.windows.now in
    let h = c.args.ready.now in
    let g = c.pop.new.self in
    let r = c.in_ok-reading.reading in
    let pop = c.in_ok-reading.ensures.popped in
    record {
      queued = taken_queued (blank ws) c.args.self.now.waiting h.items.now h.len h.sound c.requires r g.items.now g.len pop
          c.from-channel.result (channel-blank ws r.place c.from.result c.from-channel.result c.from.ensures c.from-channel.ensures);
      windows = refl;
      rest = drop_later h.items.now g.items.now h.len 64 (few_ready (blank ws) c.args.self.now.waiting h.items.now h.len h.sound c.requires) pop.rest;
    }
