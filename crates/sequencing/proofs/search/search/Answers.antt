-- A list found lowers the upper end; in the end both ends meet.
use Rattle.std.proofs.Common.{◌≡◌, ◌<◌, ◌∙◌, subst, arith}
use Rattle.sequencing.specs.Answers.{IsBelow}
use Rattle.sequencing.proofs.Searching.{between_list}
use Rattle.sequencing.proofs.search.search.Goals as goal

pub loop-low-preserved-in-Ok-try_bound : goal.loop-low-preserved-in-Ok-try_bound
loop-low-preserved-in-Ok-try_bound g c =
    let l = c.loop-low in
    let told = c.in-Ok-try_bound.ensures in
    let less : c.in-Ok-try_bound.cost < l.high = omega (arith, told.list.0, c.loop-low-test.true) in (
      between_list (g.P.Penalty.cost c.args.penalty.now) c.args.readings.now.by_channel l.low l.high l.below l.invariant.0 c.in-Ok-try_bound.cost less told.list.1,
      told.ready ∙ l.invariant.1,
    )

pub returns-clause-searched : goal.returns-clause-searched
returns-clause-searched g c =
    let l = c.loop-low in
    let f = g.P.Penalty.cost c.args.penalty.now in
    let t = c.args.readings.now.by_channel in
    let between = l.invariant.0 in
    let meet : l.low ≡ l.high = omega (arith, between.order) in
    (between.under, between.found, subst (λ n. IsBelow f t n l.below) meet between.below)
