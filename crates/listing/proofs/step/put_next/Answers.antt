-- One record more.
use Rattle.std.proofs.Common.{◌∷◌, [], Ok, ap, subst, sym, ◌∙◌, arith}
use Rattle.job.proofs.Numbers.{begins_shorter}
use Rattle.job.specs.Jobs.{Next, state_of}
use Rattle.listing.proofs.Leaving.{blank_memory, blank_roomy, fault_last}
use Rattle.listing.proofs.Listable.{listable}
use Rattle.listing.proofs.Putting.{first_put}
use Rattle.listing.specs.Listing.{PrintsLast}
use Rattle.sequencing.specs.Memory.{memory}
use Rattle.listing.proofs.step.put_next.Goals as goal

pub put_lines-requires : goal.put_lines-requires
put_lines-requires g c =
    let old = c.args.job.now in
    let new = c.next.new in
    let t = old.held.roster.readings in
    let f = g.B.Penalty.cost old.held.bottom in
    let m' = memory new.windows new.ready new.list in
    listable f (state_of old) (state_of new.self) blank_memory m' c.in-Some.answer t.long (omega (arith, t.summed, t.few)) (omega (arith, t.summed, t.few, c.next.auto.windows))
    (subst (Next f (state_of old) (state_of new.self) blank_memory m') (c.in-Ok.is ∙ ap Ok c.in-Some.is) c.next.ensures.next)

pub returns-in-Err-clause-steps : goal.returns-in-Err-clause-steps
returns-in-Err-clause-steps g c =
    let told = c.in-Err.ensures.next in
    let s = state_of c.args.job.now in (
      omega arith,
      subst (PrintsLast s) (ap (λ l. l ∷ []) (sym c.fault_line.ensures) ∙ sym (first_put c.args.lines.now c.fault_line.result (omega (arith, c.told-lines))))
          (fault_last s blank_memory c.in-Err.fault blank_roomy told.0 told.1),
    )

pub returns-clause-steps : goal.returns-clause-steps
returns-clause-steps g c =
    let old = c.args.job.now in
    let new = c.next.new in
    let f = g.B.Penalty.cost old.held.bottom in
    let m' = memory new.windows new.ready new.list in
    let takes = subst (Next f (state_of old) (state_of new.self) blank_memory m') (c.in-Ok.is ∙ ap Ok c.in-Some.is) c.next.ensures.next in
    let put = c.put_lines.ensures in (
      put.0,
      record { before = blank_memory; after = m'; answer = c.in-Some.answer; rows = put.1; roomy = blank_roomy; takes = takes; ordered = put.2; printed = put.3 },
      begins_shorter old.bytes.now new.self.bytes.now takes.0 takes.1,
    )
