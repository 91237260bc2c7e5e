-- Nothing is ready, the reading that is due first is late, or it takes the slot.
use Rattle.std.proofs.Common.{sym, ap, ◌∙◌, subst}
use Rattle.matching.specs.Queues.{Queued}
use Rattle.matching.specs.Windows.{Arranged, blank}
use Rattle.matching.proofs.Fills.{fill_blank, fill_late, fill_none, fill_placed}
use Rattle.matching.proofs.round.Round.fill_next.Goals as goal

pub returns-in_default-clause-crowded : goal.returns-in_default-clause-crowded
returns-in_default-clause-crowded c =
    let q = c.requires in
    let a = c.admit.ensures in
    let told = c.in_default.ensures in
    fill_none c.args.self.now c.admit.new.self c.args.ready.now c.admit.new.ready c.args.filled q.few q.filled a.admitted a.slots c.take.new.self c.take.new.ready told.taken
    c.take.new.self.windows.now (told.slots ∙ a.slots) c.crowd_after.result c.crowd_after.ensures

pub returns-then-is_late-clause-crowded : goal.returns-then-is_late-clause-crowded
returns-then-is_late-clause-crowded c =
    let q = c.requires in
    let a = c.admit.ensures in
    let told = c.in-Some.ensures in
    let crowd = c.crowd_upto.ensures in
    fill_late c.args.self.now c.admit.new.self c.args.ready.now c.admit.new.ready c.args.filled q.few q.filled a.admitted a.slots c.take.new.self c.take.new.ready c.in-Some.reading told.taken
    c.if-is_late.ensures c.take.new.self.windows.now (told.slots ∙ a.slots) crowd.0 crowd.1 c.crowd_upto.result crowd.2

pub invariant_of-self : goal.invariant_of-self
invariant_of-self c =
    let q = c.requires in
    let a = c.admit.ensures in
    let told = c.in-Some.ensures in
    let same = fill_blank c.args.self.now c.admit.new.self c.args.ready.now c.admit.new.ready c.args.filled q.few q.filled a.admitted a.slots c.take.new.self c.take.new.ready c.in-Some.reading told.taken
    (told.slots ∙ a.slots) c.set_slot.new.windows c.set_slot.ensures in
    record { arranged = subst Arranged (sym same) c.args.self.now.arranged }

pub returns-clause-filled : goal.returns-clause-filled
returns-clause-filled c =
    let q = c.requires in
    let a = c.admit.ensures in
    let told = c.in-Some.ensures in
    fill_placed c.args.self.now c.admit.new.self c.args.ready.now c.admit.new.ready c.args.filled q.few q.filled a.admitted a.slots c.take.new.self c.take.new.ready c.in-Some.reading told.taken
    (told.slots ∙ a.slots) c.set_slot.new.windows c.set_slot.ensures c.if-is_late.ensures

pub returns-clause-kept : goal.returns-clause-kept
returns-clause-kept c =
    let q = c.requires in
    let a = c.admit.ensures in
    let told = c.in-Some.ensures in
    let s = c.take.new.self in
    let h = c.take.new.ready in
    let same = fill_blank c.args.self.now c.admit.new.self c.args.ready.now c.admit.new.ready c.args.filled q.few q.filled a.admitted a.slots s h c.in-Some.reading told.taken
    (told.slots ∙ a.slots) c.set_slot.new.windows c.set_slot.ensures in
    record {
      queued = subst (λ bs. Queued bs s.waiting h.items.now h.len) (ap blank (told.slots ∙ a.slots) ∙ sym same) told.kept.queued;
      windows = same;
      rest = told.kept.rest ∙ a.kept.rest;
    }
