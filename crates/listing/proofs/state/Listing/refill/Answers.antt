-- One record more, and what is left after it.
use Rattle.std.proofs.Common.{◌++◌, ap, append-nil, refl, subst, suc, sym, take, zero, ◌∙◌, arith}
use Rattle.job.specs.Jobs.{state_of}
use Rattle.listing.proofs.Leaving.{none_pending}
use Rattle.listing.specs.Listing.{Prints, PrintsLast}
use Rattle.listing.proofs.state.Listing.refill.Goals as goal

pub returns-in-Answered : goal.returns-in-Answered
returns-in-Answered g c =
    let own = c.args.self.now in
    let new = c.put_next-step.new in
    let told = c.in-Answered.ensures in
    let cost = g.B.Penalty.cost in
    record {
      lines = λ lines left.
          rw (none_pending own.lines own.count own.given c.requires, c.in-Some.is) (
            lines,
            refl,
            (suc left.2.0, (state_of new.job, take c.in-Answered.count new.lines, left.0, told.steps.1, subst (λ b. Prints (cost b) left.2.0 (state_of new.job) left.0) told.bottom left.2.1, left.1)),
          );
      fewer = rw c.in-Some.is (omega (arith, told.steps.0, told.steps.2));
    }

pub returns-in-Ended : goal.returns-in-Ended
returns-in-Ended g c =
    let own = c.args.self.now in
    let new = c.put_next-step.new in
    let told = c.in-Ended.ensures in
    record {
      lines = λ lines left.
          rw (none_pending own.lines own.count own.given c.requires, c.in-Some.is) (
            lines,
            refl,
            (zero, subst (PrintsLast (state_of c.in-Some.job)) (sym (append-nil (take c.in-Ended.count new.lines)) ∙ ap (λ others. take c.in-Ended.count new.lines ++ others) (sym left.2) ∙ sym left.1) told.steps.1),
          );
      fewer = rw c.in-Some.is (omega (arith, told.steps.0));
    }

pub invariant_of-self-in-Answered : goal.invariant_of-self-in-Answered
invariant_of-self-in-Answered g c = record { long = c.put_next-step.ensures.long; within = c.in-Answered.ensures.steps.0 }

pub invariant_of-self-in-Ended : goal.invariant_of-self-in-Ended
invariant_of-self-in-Ended g c = record { long = c.put_next-step.ensures.long; within = c.in-Ended.ensures.steps.0 }
