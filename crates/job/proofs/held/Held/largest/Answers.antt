-- The list is complete, so the audit gives its largest cost.
use Rattle.std.proofs.Common.{subst, sym, arith}
use Rattle.job.specs.Held.{held_of, pile}
use Rattle.round.proofs.Counts.{some_channel}
use Rattle.round.proofs.Faults.{audited_ok}
use Rattle.round.specs.Audit.{Audited}
use Rattle.round.specs.Lists.{Sound}
use Rattle.job.proofs.held.Held.largest.Goals as goal

pub unwrap-requires : goal.unwrap-requires
unwrap-requires g c =
    let h = c.args.self.now in
    let t = h.roster.readings in
    let sound : Sound t.by_channel = record { long = t.long; some = some_channel t.by_channel c.requires.some; few = omega (arith, t.summed, t.few) } in
    audited_ok (pile (g.B.Penalty.cost h.bottom) (held_of h)) t.by_channel c.args.list.now sound c.requires.complete c.audit-audited.result (rw (sym c.pile.ensures, sym c.readings.ensures) c.audit-audited.ensures)

pub returns : goal.returns
returns g c =
    let h = c.args.self.now in
    let t = h.roster.readings.by_channel in
    let f = pile (g.B.Penalty.cost h.bottom) (held_of h) in
    let audited : Audited f t c.args.list.now c.audit-audited.result = rw (sym c.pile.ensures, sym c.readings.ensures) c.audit-audited.ensures in
    (subst (Audited f t c.args.list.now) c.unwrap.ensures audited).2.largest
