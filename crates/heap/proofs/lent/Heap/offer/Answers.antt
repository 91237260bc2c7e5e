-- The first is left out.
use Rattle.std.proofs.Common.{rules, ◌≡◌, length}
use Rattle.heap.specs.Heaps.{First, Popped, Pushed, Unchanged}
use Rattle.heap.proofs.Offers.{out_first}
use Rattle.heap.proofs.lent.Heap.offer.Goals as goal

pub returns-clause-offered : goal.returns-clause-offered
returns-clause-offered g c =
    let leq = g.T.Ordered.leq in
    let old = c.args.self.now in
    let refused : (old.len ≡ length old.items.now) × Unchanged old.items.now old.len c.push.new.self.items.now c.push.new.self.len = search rules in
    let first : First leq c.in-Some.first old.items.now old.len = search rules in
    let out : Popped leq c.unwrap-out.result old.items.now old.len c.pop.new.self.items.now c.pop.new.self.len = search rules in
    let into : Pushed c.args.x c.pop.new.self.items.now c.pop.new.self.len c.push-2.new.self.items.now c.push-2.new.self.len = search rules in
    out_first leq c.args.x c.unwrap-out.result c.in-Some.first old.items.now old.len
    c.pop.new.self.items.now c.pop.new.self.len c.push-2.new.self.items.now c.push-2.new.self.len refused.0 first (search rules) out into
