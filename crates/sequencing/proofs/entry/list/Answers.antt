-- The answer, from what is shown in the part of the memory that is lent on.
use Rattle.std.proofs.Common.{sum, ◌∙◌}
use Rattle.sequencing.proofs.Answering.{cut_long, listed_from}
use Rattle.sequencing.proofs.entry.list.Goals as goal

pub returns : goal.returns
returns g c =
    let own = c.args in
    let t = own.readings.now.by_channel in
    let new = c.list_within.new in
    let told = c.list_within.ensures in
    let room = c.in_ok-check.ensures.room in
    let total = c.from-total.ensures ∙ c.total.ensures in
    let places = cut_long c.from-total.result (sum t) own.windows.now new.windows total room.1 c.list_within.auto.windows in
    let bytes = cut_long c.from-total.result (sum t) own.list.now new.list total room.3 c.list_within.auto.list in
    rw total (
      c.in_ok-check.ensures.refused.0,
      listed_from t own.windows.now new.windows own.ready.now new.ready own.list.now new.list places bytes told.ready
          (g.P.Penalty.cost own.penalty.now) own.bound c.list_within.result told.shown,
    )
