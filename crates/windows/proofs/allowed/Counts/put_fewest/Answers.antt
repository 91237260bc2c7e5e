-- One slot more, the last one, and a blocked one.
use Rattle.std.proofs.Common.{⊎_elim, arith}
use Rattle.std.proofs.lemmas.Bool.{cases_lt}
use Rattle.windows.proofs.CountLimits.{fewest_step}
use Rattle.windows.proofs.allowed.Counts.put_fewest.Goals as goal

pub loop-slot-preserved : goal.loop-slot-preserved
loop-slot-preserved g c =
    let own = c.args.self.now in
    rw c.from.ensures
    (fewest_step (g.P.Penalty.cost own.penalty.now) own.table.now.by_channel own.bound own.channel c.loop-slot.slot _ _ _ (omega arith) (omega arith)
    c.loop-slot.invariant c.in-Some.ensures)

pub returns-in_default-clause-blocked : goal.returns-in_default-clause-blocked
returns-in_default-clause-blocked g c = record {
  holds = record { moment = (omega arith, c.requires); none = λ x a. c.in_default.ensures (x, a) };
  least = λ m b. ⊎_elim (λ less. let a = c.loop-slot.invariant.some m less in absurd (b.none a.0 a.1)) (λ ge. ge) (cases_lt m c.loop-slot.slot);
}

pub returns-in-Some : goal.returns-in-Some
returns-in-Some g c =
    let own = c.args.self.now in
    let upto = fewest_step (g.P.Penalty.cost own.penalty.now) own.table.now.by_channel own.bound own.channel c.loop-slot.slot _ _ _ (omega arith) (omega arith)
    c.loop-slot.invariant c.in-Some.ensures in
    record {
      unblocked = λ k b. let a = upto.some k (omega (arith, b.moment.0)) in b.none a.0 a.1;
      fewest = rw c.from.ensures (λ k h. upto.each k (omega arith));
      blocked = tt;
    }
