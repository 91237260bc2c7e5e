-- The first formula stays within the slots, and both give the window.
use Rattle.std.proofs.Common.{◌≡◌, arith, rules}
use Rattle.windows.specs.Formulas.{earliest, latest}
use Rattle.windows.proofs.SteinerYeomans.{ceil_upto, formulas_give}
use Rattle.windows.proofs.closed_form.steiner_yeomans.Goals as goal

pub overflow_cast-result : goal.overflow_cast-result
overflow_cast-result c =
    let upto = ceil_upto c.args.slots c.args.readings c.args.reading c.args.bound (omega arith) (omega arith) in
    let over = rw (c.from-reading.ensures, c.from-slots.ensures, c.from-bound.ensures) at c.saturating_sub.ensures in
    let up = rw (over, c.from-readings.ensures) at c.div_ceil.ensures in
    omega (arith, c.max-earliest.ensures, up, upto)

pub returns-clause-window : goal.returns-clause-window
returns-clause-window c t d sound slots readings none =
    let first : c.max-earliest.result ≡ earliest c.args.slots c.args.readings c.args.reading c.args.bound = search rules in
    let last : c.min-latest.result ≡ latest c.args.slots c.args.readings c.args.reading c.args.bound = search rules in
    rw (first, last, slots, readings) (formulas_give t sound c.args.bound d (omega arith) none c.args.reading (omega arith, omega arith))
