-- The heap has been offered the moments up to the last channel.
use Rattle.std.proofs.Common.{◌≡◌, ◌++◌, ℕ, List, length, map, take}
use Rattle.heap.specs.Heaps.{AreLast}
use Rattle.round.specs.Dearest.{channels_to, costed, no_dearer}
use Rattle.round.specs.Walk.{Counted}
use Rattle.round.specs.declared.costed_moment.CostedMoment.{CostedMoment}
use Rattle.round.proofs.walk.Walk.offer.Given as goal

abbrev pub invariant-loop-channel : goal.invariant-loop-channel
invariant-loop-channel g l =
    let f = g.P.Penalty.cost l.self.penalty.now in
    let t = l.self.readings.now.by_channel in
    let places = length l.initial.heap.items.now in
    (l.heap.items.ghost_name ≡ l.initial.heap.items.ghost_name)
    × (length l.heap.items.now ≡ places)
    × ((list : List ℕ) (before : List CostedMoment) → Counted l.self.counts list l.slot →
    AreLast no_dearer before places (take l.initial.heap.len l.initial.heap.items.now) →
    AreLast no_dearer (before ++ map (costed f t list l.slot) (channels_to t l.channel)) places (take l.heap.len l.heap.items.now))
