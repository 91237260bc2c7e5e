-- The moments at 0, one slot more, and that something is found.
use Rattle.std.proofs.Common.{◌+◌, refl, ⊎_elim, arith}
use Rattle.std.proofs.lemmas.List.{length-set}
use Rattle.round.specs.Lists.{Moment}
use Rattle.round.specs.Walk.{Counted}
use Rattle.round.proofs.Counts.{counted_none, next_counted, next_room}
use Rattle.round.proofs.Walks.{found_at, found_some, past_all}
use Rattle.round.proofs.walk.largest_cost.Goals as goal

pub loop-i-init : goal.loop-i-init
loop-i-init g c =
    let counted = counted_none 64 c.args.list.now in
    let found = c.scan-found.ensures c.args.list.now (omega arith) counted (λ j b m. ⊎_elim (λ p. omega arith) (λ e. omega arith) m.1) in
    (refl, refl, refl, counted, found)

pub count_slot-requires : goal.count_slot-requires
count_slot-requires g c =
    next_room c.args.readings.now.by_channel c.loop-i.walk.counts c.args.list.now c.loop-i.i c.requires.0.long c.requires.1 c.loop-i-test.true c.loop-i.invariant.3
    (omega (arith, c.requires.0.few, c.requires.1.full))

pub loop-i-preserved : goal.loop-i-preserved
loop-i-preserved g c =
    let list = c.args.list.now in
    let t = c.args.readings.now.by_channel in
    let i = c.loop-i.i in
    let slot = c.slot_at.result in
    let old = c.loop-i.invariant in
    let counted : Counted c.count_slot.new.counts list (i + 1) =
    rw c.count_slot.ensures (next_counted t c.loop-i.walk.counts list i c.requires.0.long c.requires.1 c.loop-i-test.true old.3 old.2) in
    let found = found_at _ t (i + 1) slot c.loop-i.found (omega arith) old.4 in
    let scanned = rw (old.0, old.1) at c.scan-found-in-loop-i.ensures in
    let more = scanned list (omega arith) (rw c.slot_at.ensures counted) found in
    (old.0, old.1, rw (c.count_slot.ensures, length-set) old.2, counted, found_at _ t (slot + 1) (i + 1 + 1) c.scan-found-in-loop-i.result (omega arith) more)

pub unwrap-requires : goal.unwrap-requires
unwrap-requires g c =
    let t = c.args.readings.now.by_channel in
    let some = c.requires.0.some in
    let all = past_all _ t c.loop-i.i (omega arith) c.loop-i.found c.loop-i.invariant.4 in
    found_some _ (Moment t) c.loop-i.found all 0 some.0 (omega arith, some.1)
