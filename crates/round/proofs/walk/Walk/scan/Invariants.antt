-- What was found up to the last channel of the scan.
use Rattle.std.proofs.Common.{ℕ, ◌≤◌, List, sum}
use Rattle.round.specs.Walk.{Counted, Found, Past}
use Rattle.round.specs.Lists.{cost_at}
use Rattle.round.proofs.walk.Walk.scan.Given as goal

abbrev pub invariant-loop-channel : goal.invariant-loop-channel
invariant-loop-channel g l =
    let f = g.P.Penalty.cost l.self.penalty.now in
    let t = l.self.readings.now.by_channel in
    (list : List ℕ) → l.slot ≤ sum t → Counted l.self.counts list l.slot →
    Found (cost_at f t list) (Past t l.slot 0) l.initial.found →
    Found (cost_at f t list) (Past t l.slot l.channel) l.found
