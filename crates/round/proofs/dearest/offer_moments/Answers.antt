-- The moments at 0, and one slot more.
use Rattle.std.proofs.Common.{◌+◌, [], List, length, take, refl, sym, subst, ◌∙◌, arith}
use Rattle.std.proofs.lemmas.List.{append-nil, length-set}
use Rattle.heap.proofs.Selecting.{last_none}
use Rattle.heap.specs.Heaps.{AreLast}
use Rattle.round.specs.Dearest.{no_dearer, moments_to}
use Rattle.round.specs.Walk.{Counted, Offered}
use Rattle.round.specs.declared.costed_moment.CostedMoment.{CostedMoment}
use Rattle.round.proofs.Counts.{counted_none, next_counted, next_room}
use Rattle.round.proofs.Offering.{slot_offered}
use Rattle.round.proofs.dearest.offer_moments.Goals as goal

pub loop-i-init : goal.loop-i-init
loop-i-init g c =
    let counted = counted_none 64 c.args.list.now in
    let heap = c.args.heap.now in
    let none : AreLast no_dearer [] (length heap.items.now) (take heap.len heap.items.now) =
    rw c.requires.none (last_none no_dearer (length heap.items.now)) in
    let first = c.offer.ensures.offered c.args.list.now [] counted none in
    let next = c.offer.new.heap in (
      refl,
      refl,
      refl,
      counted,
      c.offer.ensures.named,
      c.offer.ensures.long,
      subst (λ (ms : List CostedMoment). AreLast no_dearer ms (length heap.items.now) (take next.len next.items.now)) (sym (append-nil _)) first,
    )

pub count_slot-requires : goal.count_slot-requires
count_slot-requires g c =
    let sound = c.requires.sound in
    next_room c.args.readings.now.by_channel c.loop-i.walk.counts c.args.list.now c.loop-i.i sound.0.long sound.1 c.loop-i-test.true c.loop-i.invariant.3
    (omega (arith, sound.0.few, sound.1.full))

pub loop-i-preserved : goal.loop-i-preserved
loop-i-preserved g c =
    let f = g.P.Penalty.cost c.args.penalty.now in
    let list = c.args.list.now in
    let t = c.args.readings.now.by_channel in
    let i = c.loop-i.i in
    let old = c.loop-i.invariant in
    let sound = c.requires.sound in
    let counted : Counted c.count_slot.new.counts list (i + 1) =
    rw c.count_slot.ensures (next_counted t c.loop-i.walk.counts list i sound.0.long sound.1 c.loop-i-test.true old.3 old.2) in
    let heap = c.offer-in-loop-i.new.heap in
    let offered : Offered f t c.count_slot.new.counts c.slot_at.result (length c.loop-i.heap.items.now) (take c.loop-i.heap.len c.loop-i.heap.items.now) (take heap.len heap.items.now) =
    rw (sym old.0, sym old.1) c.offer-in-loop-i.ensures.offered in
    let next = offered list (moments_to f t list (i + 1)) (rw c.slot_at.ensures counted) (rw old.5 old.6) in (
      old.0,
      old.1,
      rw (c.count_slot.ensures, length-set) old.2,
      counted,
      c.offer-in-loop-i.ensures.named ∙ old.4,
      c.offer-in-loop-i.ensures.long ∙ old.5,
      slot_offered f t list (i + 1) c.slot_at.result (length c.loop-i.heap.items.now) (length c.args.heap.now.items.now) (take heap.len heap.items.now) c.slot_at.ensures old.5 next,
    )
