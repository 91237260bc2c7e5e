-- The front goes out, the last takes its place and goes down.
use Rattle.std.proofs.Common.{◌+◌, sym, ◌∙◌, arith}
use Rattle.heap.proofs.Exchanges.{pops}
use Rattle.heap.proofs.Sifts.{first_of}
use Rattle.heap.proofs.sift.take_front.Goals as goal

pub returns-clause-out : goal.returns-clause-out
returns-clause-out g c =
    let o = g.met.T.Ordered in
    let n = c.args.last in
    let xs = c.args.items.now in
    let x = c.index-items-0.result in
    let sound = c.requires.sound in
    let told = c.swap.ensures in
    pops g.T.Ordered.leq n x xs c.swap.new.self c.sift_down.new.items told.after (c.index-items-0.is ∙ sym (told.by_index.1 x)) (omega arith) c.sift_down.ensures.same
    (omega (arith, sound.room)) (first_of g.T.Ordered.leq o.total o.transitive xs (n + 1) x (omega arith) sound c.index-items-0.is)
