-- The list of the rules is complete, and within the bound.
use Rattle.sequencing.proofs.Standing.{sequence_complete, sequence_within}
use Rattle.sequencing.proofs.entry.list_within.Goals as goal

pub returns-in-Ok-clause-shown : goal.returns-in-Ok-clause-shown
returns-in-Ok-clause-shown g c =
    let f = g.P.Penalty.cost c.args.penalty.now in
    let t = c.args.readings.now.by_channel in
    let ws = c.sequence.new.windows in
    let l = c.sequence.new.list in
    let made = c.in-Ok.ensures.list in
    (sequence_complete f t c.args.bound ws l made, sequence_within f t c.args.bound ws l made (g.met.P.Penalty.valley c.args.penalty.now), made)
