-- The answer, from what is shown in the part of the memory that is lent on.
use Rattle.std.proofs.Common.{sum, nat_lt, ◌∙◌, arith}
use Rattle.std.proofs.lemmas.List.Sums.{count_by-le-length}
use Rattle.round.proofs.Counts.{some_channel}
use Rattle.sequencing.proofs.Answering.{best_from, cut_long, shown_below, some_counted}
use Rattle.sequencing.proofs.entry.best.Goals as goal

pub invariant_of-result : goal.invariant_of-result
invariant_of-result g c =
    let own = c.args in
    let t = own.readings.now.by_channel in
    let some = c.in_ok-check.ensures.room.0 in
    record {
      some = omega (arith, some, c.total-2.ensures);
      few = omega (arith, own.readings.now.few, own.readings.now.summed, c.total-2.ensures);
      some_channel = omega (arith, some_counted t some, c.channels.ensures);
      few_channels = omega (arith, count_by-le-length (nat_lt 0) t, own.readings.now.long, c.channels.ensures);
      below_top =
          shown_below (g.P.Penalty.cost own.penalty.now) t c.least_list-outcome.new.windows c.least_list-outcome.new.list c.least_list-outcome.result
          c.least_list-outcome.ensures.shown;
    }

pub returns : goal.returns
returns g c =
    let own = c.args in
    let t = own.readings.now.by_channel in
    let new = c.least_list-outcome.new in
    let told = c.least_list-outcome.ensures in
    let room = c.in_ok-check.ensures.room in
    let total = c.from-total.ensures ∙ c.total.ensures in
    let places = cut_long c.from-total.result (sum t) own.windows.now new.windows total room.1 c.least_list-outcome.auto.windows in
    let bytes = cut_long c.from-total.result (sum t) own.list.now new.list total room.3 c.least_list-outcome.auto.list in
    rw total (
      c.in_ok-check.ensures.refused.0,
      best_from t own.windows.now new.windows own.ready.now new.ready own.list.now new.list places bytes told.ready
          (g.P.Penalty.cost own.penalty.now) _
          (g.met.P.Penalty.capped own.penalty.now) (some_channel t room.0) c.total-2.ensures c.channels.ensures told.shown,
    )
