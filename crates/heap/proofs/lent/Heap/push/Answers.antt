-- The element behind those that are kept, and then at its place.
use Rattle.std.proofs.Common.{◌≡◌, length, ◌∙◌, arith}
use Rattle.std.proofs.lemmas.List.{length-set}
use Rattle.heap.proofs.Exchanges.{pushes}
use Rattle.heap.proofs.lent.Heap.push.Goals as goal

pub returns-clause-pushed : goal.returns-clause-pushed
returns-clause-pushed g c =
    let h = c.args.self.now in
    let zs = c.sift_up.new.items in
    let long : length zs ≡ length h.items.now = c.sift_up.auto.items ∙ length-set _ _ _ in
    pushes h.len c.args.x h.items.now zs (omega arith) long c.sift_up.ensures.same
