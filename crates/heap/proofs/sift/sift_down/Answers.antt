-- One exchange with the least child; the end where the element may come out before it, or has no child.
use Rattle.std.proofs.Common.{get_or, arith}
use Rattle.heap.proofs.Exchanges.{rearranged_swap, rearranged_then}
use Rattle.heap.proofs.Sifts.{downward_end, downward_more, downward_rests}
use Rattle.heap.proofs.sift.sift_down.Goals as goal

pub loop-at-preserved : goal.loop-at-preserved
loop-at-preserved g c =
    let o = g.met.T.Ordered in
    let l = c.loop-at in
    let n = c.args.len in
    let child = c.least_child-child.result in
    let least = c.least_child-child.ensures in
    let ys = c.swap.new.self in
    let told = c.swap.ensures in (
      omega arith,
      rearranged_then n c.args.items.now l.items ys l.invariant.1 (rearranged_swap n l.items ys l.at child (omega arith) (omega arith) (omega arith) told.after),
      λ d. downward_more g.T.Ordered.leq o.total o.transitive (λ k. get_or l.items k d) (λ k. get_or ys k d) l.at child n
          least.child least.kept (λ k. least.least k d) (told.by_index.0 d, told.by_index.1 d, λ k. told.by_index.2 k d) (c.if-leq_at.ensures d) (l.invariant.2 d),
    )

pub returns-then-leq_at-clause-heaped : goal.returns-then-leq_at-clause-heaped
returns-then-leq_at-clause-heaped g c =
    let o = g.met.T.Ordered in
    let l = c.loop-at in
    downward_rests g.T.Ordered.leq o.total o.transitive l.items l.at c.least_child-child.result c.args.len c.least_child-child.ensures (λ d. c.if-leq_at.ensures d) l.invariant.2

pub returns-clause-heaped : goal.returns-clause-heaped
returns-clause-heaped g c =
    let l = c.loop-at in
    downward_end g.T.Ordered.leq l.items l.at c.args.len (omega arith) l.invariant.2
