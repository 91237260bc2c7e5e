-- One place before, with the places after it.
use Rattle.std.proofs.Common.{◌≡◌, length, Some, sym, refl, ap, ◌∙◌, arith}
use Rattle.std.proofs.lemmas.List.{length-set, take_all}
use Rattle.matching.specs.Windows.{blank}
use Rattle.matching.proofs.Blanks.{channel-blank, length-blank}
use Rattle.matching.proofs.Queueing.{one_less, starts_more, wait_first, wait_more}
use Rattle.matching.proofs.round.first_places.Goals as goal

pub bounds-waiting-from : goal.bounds-waiting-from
bounds-waiting-from c =
    let l = c.loop-place in
    let ws = c.args.windows.now in
    let told = c.in-Some.ensures.steps in
    let less = one_less ws l.place-iterator.iter.iter.rest.now c.next.new.self.iter.iter.rest.now c.in-Some.window.now l.invariant.1 told.1.0 l.invariant.2 in
    let at = channel-blank ws (length c.next.new.self.iter.iter.rest.now) (length c.next.new.self.iter.iter.rest.now) c.from.result refl (c.from.ensures ∙ ap (λ w. w.channel) (sym less.last)) in
    omega (arith, at, (c.requires.usable (length c.next.new.self.iter.iter.rest.now) (omega (arith, less.within, length-blank ws))).channel)

pub loop-place-init : goal.loop-place-init
loop-place-init c =
    let ws = c.args.windows.now in
    let iterator = c.into_iter-place-iterator.result in
    let count : iterator.iter.count ≡ 0 = cc in
    let all : iterator.iter.iter.rest.now ≡ ws = cc in
    let long = length-blank ws in
    (count, all ∙ sym (take_all (length iterator.iter.iter.rest.now) ws (omega (arith, ap length all))), omega (arith, ap length all), refl, wait_first _, λ j from to. absurd (omega (arith, ap length all)))

pub offset_bounds-waiting-from : goal.offset_bounds-waiting-from
offset_bounds-waiting-from c = let below = bounds-waiting-from c in omega arith

pub loop-place-preserved : goal.loop-place-preserved
loop-place-preserved c =
    let l = c.loop-place in
    let ws = c.args.windows.now in
    let rest = c.next.new.self.iter.iter.rest.now in
    let told = c.in-Some.ensures.steps in
    let less = one_less ws l.place-iterator.iter.iter.rest.now rest c.in-Some.window.now l.invariant.1 told.1.0 l.invariant.2 in
    let at = channel-blank ws (length rest) (length rest) c.from.result refl (c.from.ensures ∙ ap (λ w. w.channel) (sym less.last)) in
    let below = bounds-waiting-from c in
    let place : c.in-Some.place ≡ length rest = omega (arith, told.1.1, l.invariant.0) in (
      told.0 ∙ l.invariant.0,
      less.first,
      omega (arith, less.within),
      length-set l.waiting c.from.result (Some c.in-Some.place) ∙ l.invariant.3,
      wait_more l.waiting c.from.result c.in-Some.place (omega (arith, l.invariant.3)) l.invariant.4,
      rw (at, place) (starts_more (blank ws) l.waiting (length rest) (omega (arith, at, l.invariant.3)) (λ j from to. l.invariant.5 j (omega (arith, less.one)) to)),
    )
