-- The pairs are the first 64 of the input.
use Rattle.std.proofs.Common.{length, take, map, sym, ap, ◌∙◌, arith, w16}
use Rattle.std.proofs.lemmas.Iterator.{YieldsList-from_slice, YieldsList-from_take}
use Rattle.std.proofs.lemmas.Iterator.Consumers.{YieldsList-turn, YieldsList-end, YieldsList-at}
use Rattle.std.proofs.lemmas.List.{length-map, length-take}
use Rattle.std.specs.Int.{from_be_bytes}
use Rattle.report.proofs.Numbers.{numbers-take}
use Rattle.report.proofs.input.row_of.Goals as goal

pub push-requires : goal.push-requires
push-requires c =
    let pairs = YieldsList-at c.into_iter-pair-iterator.ensures.into_iter_gives (YieldsList-from_take _ (YieldsList-from_slice c.as_chunks.result.0.now cc) c.take-pair-items.ensures.count) in
    let turn = YieldsList-turn pairs c.loop-pair.yielded _ c.loop-pair.yielded_by _ _ c.in-Some.field-0 c.in-Some.is c.next.ensures.steps in
    let few = simp length-take at turn.0 in
    let long = simp length-map at (ap length c.loop-pair.invariant) in
    (omega arith, omega arith)

pub returns : goal.returns
returns c =
    let pairs = YieldsList-at c.into_iter-pair-iterator.ensures.into_iter_gives (YieldsList-from_take _ (YieldsList-from_slice c.as_chunks.result.0.now cc) c.take-pair-items.ensures.count) in
    let all = YieldsList-end pairs c.loop-pair.yielded _ c.loop-pair.yielded_by _ _ c.in-None.is c.next.ensures.steps in
    c.loop-pair.invariant ∙ ap (map (from_be_bytes w16)) (all.0 ∙ ap (take 64) c.as_chunks.ensures.front) ∙ sym (numbers-take 64 c.args.input.now)
