-- One channel more, and the end of the channels.
use Rattle.std.proofs.Common.{◌≡◌, ◌++◌, ◌∷◌, [], ap, sum, sym, subst, ◌∙◌, length, map, take, arith, List}
use Rattle.heap.proofs.Selecting.{last_offered}
use Rattle.heap.specs.Heaps.{AreLast}
use Rattle.round.proofs.Offering.{channels_same, moment_more}
use Rattle.round.specs.Order.{transitive}
use Rattle.round.specs.Dearest.{channels_to, costed, no_dearer}
use Rattle.round.specs.Lists.{cost_at, readings}
use Rattle.round.specs.declared.costed_moment.CostedMoment.{CostedMoment}
use Rattle.round.proofs.walk.Walk.offer.Goals as goal
use Rattle.round.proofs.walk.Walk.offer.Goals.{then-of-gt0, else-of-gt0}

pub loop-channel-preserved : goal.loop-channel-preserved
loop-channel-preserved g c =
    let f = g.P.Penalty.cost c.args.self.now.penalty.now in
    let t = c.args.self.now.readings.now.by_channel in
    let slot = c.args.slot in
    let channel = c.loop-channel.channel in
    let heap = c.loop-channel.heap in
    let places = length c.args.heap.now.items.now in
    let old = c.loop-channel.invariant in
    elim c.if-of-gt0.branch [
      | then-of-gt0 w ↦
          let next = w.offer.new.self in
          rw w.heap-is (
            w.offer.ensures.named ∙ old.0,
            w.offer.ensures.long ∙ old.1,
            λ list before agree first.
                let offered : CostedMoment = record { cost = w.cost_after-cost.result; slot = slot; channel = channel } in
                let costs : w.cost_after-cost.result ≡ cost_at f t list slot channel =
                rw w.cost_after-cost.ensures (ap (λ x. f (sum t) channel (readings t channel) x slot) (agree channel)) in
                let is : offered ≡ costed f t list slot channel = ap (λ n. record { cost = n; slot = slot; channel = channel }) costs in
                let kept = last_offered no_dearer transitive (before ++ map (costed f t list slot) (channels_to t channel)) offered
                heap.items.now heap.len next.items.now next.len places old.1 w.offer.result heap.sound.room next.sound.room w.offer.ensures.offered
                (old.2 list before agree first) in
                subst (λ (ms : List CostedMoment). AreLast no_dearer ms places (take next.len next.items.now))
                (ap (λ x. (before ++ map (costed f t list slot) (channels_to t channel)) ++ x ∷ []) is ∙ sym (moment_more f t list slot channel before (omega arith))) kept,
          )
      | else-of-gt0 w ↦
          rw (w.heap-is, channels_same t channel (omega arith)) old
    ]

pub returns-clause-offered : goal.returns-clause-offered
returns-clause-offered g c list before agree first =
    let end : c.loop-channel.channel ≡ 64 = omega arith in
    rw end at (c.loop-channel.invariant.2 list before agree first)
