-- There is a list at the least, so that the second try finds the list of the rules there.
use Rattle.std.proofs.Common.{OnOk, subst}
use Rattle.round.proofs.Counts.{some_channel}
use Rattle.sequencing.specs.Sequences.{IsSequence}
use Rattle.sequencing.proofs.Answering.{least_list}
use Rattle.sequencing.proofs.Searching.{found_again}
use Rattle.sequencing.proofs.entry.least_list.Goals as goal

pub unwrap-requires : goal.unwrap-requires
unwrap-requires g c =
    found_again (g.P.Penalty.cost c.args.penalty.now) c.args.readings.now.by_channel c.in-Least.least c.sequence.result c.sequence.ensures.block
    c.in-Least.ensures.searched.1

pub returns-in-Least-clause-shown : goal.returns-in-Least-clause-shown
returns-in-Least-clause-shown g c =
    let own = c.args in
    let f = g.P.Penalty.cost own.penalty.now in
    let t = own.readings.now.by_channel in
    let n = c.in-Least.least in
    let ws = c.sequence.new.windows in
    let l = c.sequence.new.list in
    let made : IsSequence f t n ws l = subst (λ r. OnOk r (IsSequence f t n ws l)) c.unwrap.ensures c.sequence.ensures.list in
    least_list f t n c.in-Least.below ws l (g.met.P.Penalty.capped own.penalty.now) (g.met.P.Penalty.valley own.penalty.now)
    (some_channel t c.requires.some) c.in-Least.ensures.searched made
