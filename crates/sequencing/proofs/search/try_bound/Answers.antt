-- The list of the rules is complete, so the audit gives its largest cost.
use Rattle.std.proofs.Common.{Ok, subst, arith}
use Rattle.round.proofs.Counts.{some_channel}
use Rattle.round.proofs.Faults.{audited_ok}
use Rattle.round.specs.Audit.{Audited}
use Rattle.round.specs.Lists.{Sound}
use Rattle.sequencing.proofs.Costs.{largest_upto}
use Rattle.sequencing.proofs.Standing.{sequence_complete, sequence_within}
use Rattle.sequencing.proofs.search.try_bound.Goals as goal

pub unwrap-largest-requires : goal.unwrap-largest-requires
unwrap-largest-requires g c =
    let f = g.P.Penalty.cost c.args.penalty.now in
    let readings = c.args.readings.now in
    let sound : Sound readings.by_channel = record { long = readings.long; some = some_channel readings.by_channel c.requires.some; few = omega (arith, readings.summed, readings.few) } in
    let made = c.in_ok-sequence.ensures.list in
    audited_ok f readings.by_channel c.sequence.new.list sound
    (sequence_complete f readings.by_channel c.args.bound c.sequence.new.windows c.sequence.new.list made) c.audit.result c.audit.ensures

pub returns-clause-list : goal.returns-clause-list
returns-clause-list g c =
    let f = g.P.Penalty.cost c.args.penalty.now in
    let t = c.args.readings.now.by_channel in
    let l = c.sequence.new.list in
    let made = c.in_ok-sequence.ensures.list in
    let audited : Audited f t l (Ok c.unwrap-largest.result) = subst (Audited f t l) c.unwrap-largest.ensures c.audit.ensures in
    let within = sequence_within f t c.args.bound c.sequence.new.windows l made (g.met.P.Penalty.valley c.args.penalty.now) in
    let cost = c.unwrap-largest.result.cost in
    (largest_upto f t l cost c.args.bound audited.2.largest within, (l, audited.1, audited.2.largest))
