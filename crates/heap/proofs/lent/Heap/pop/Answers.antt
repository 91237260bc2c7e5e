-- In which order elements leave.
use Rattle.std.proofs.Common.{rules}
use Rattle.heap.specs.Heaps.{Popped}
use Rattle.heap.proofs.Offers.{leaves_first}
use Rattle.heap.proofs.lent.Heap.pop.Goals as goal

pub returns-clause-order : goal.returns-clause-order
returns-clause-order g c =
    let h = c.args.self.now in
    let out : Popped g.T.Ordered.leq c.take_front.result h.items.now h.len c.take_front.new.items c.in_ok-last.last = search rules in
    leaves_first g.T.Ordered.leq c.take_front.result h.items.now h.len c.take_front.new.items c.in_ok-last.last out
