-- One exchange with the parent; the end at a parent that may come out first, or at the front.
use Rattle.std.proofs.Common.{◌+◌, get_or, arith}
use Rattle.heap.proofs.Exchanges.{rearranged_swap, rearranged_then}
use Rattle.heap.proofs.Sifts.{upward_more, upward_rests, upward_top}
use Rattle.heap.proofs.sift.sift_up.Goals as goal

pub loop-at-preserved : goal.loop-at-preserved
loop-at-preserved g c =
    let o = g.met.T.Ordered in
    let l = c.loop-at in
    let n = c.args.start + 1 in
    let parent = c.parent_of-parent.result in
    let child = c.parent_of-parent.ensures in
    let ys = c.swap.new.self in
    let told = c.swap.ensures in (
      omega arith,
      omega arith,
      rearranged_then n c.args.items.now l.items ys l.invariant.2 (rearranged_swap n l.items ys parent l.at (omega arith) (omega arith) (omega arith) told.after),
      λ d. upward_more g.T.Ordered.leq o.total o.transitive (λ k. get_or l.items k d) (λ k. get_or ys k d) parent l.at n
          child (omega arith) (told.by_index.0 d, told.by_index.1 d, λ k. told.by_index.2 k d) (c.if-leq_at.ensures d) (l.invariant.3 d),
    )

pub returns-then-leq_at-clause-heaped : goal.returns-then-leq_at-clause-heaped
returns-then-leq_at-clause-heaped g c =
    let l = c.loop-at in
    upward_rests g.T.Ordered.leq l.items c.parent_of-parent.result l.at (c.args.start + 1) c.parent_of-parent.ensures (λ d. c.if-leq_at.ensures d) l.invariant.3

pub returns-clause-heaped : goal.returns-clause-heaped
returns-clause-heaped g c =
    let l = c.loop-at in
    upward_top g.T.Ordered.leq l.items l.at (c.args.start + 1) (omega arith) l.invariant.3
