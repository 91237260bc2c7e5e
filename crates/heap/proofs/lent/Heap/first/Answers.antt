-- The front of the elements that are kept.
use Rattle.std.proofs.Common.{◌∙◌}
use Rattle.heap.proofs.Sifts.{front_first}
use Rattle.heap.proofs.lent.Heap.first.Goals as goal

pub returns-clause-first : goal.returns-clause-first
returns-clause-first g c =
    let o = g.met.T.Ordered in
    let h = c.args.self.now in
    front_first g.T.Ordered.leq o.total o.transitive h.items.now h.len c.copied.result h.sound (c.copied.ensures ∙ c.first.ensures.value)
