-- A shut window, or none.
use Rattle.std.proofs.Common.{take, sum, arith}
use Rattle.windows.proofs.Shut.{shut_first, shut_none}
use Rattle.windows.proofs.entry.fill.Goals as goal

pub returns-in-Some-clause-unfilled : goal.returns-in-Some-clause-unfilled
returns-in-Some-clause-unfilled g c =
    let t = c.args.table.now.by_channel in
    let filled = c.in_ok-fill_channels.ensures.filled in
    let found = rw (c.from-total.ensures, c.total.ensures) at c.in-Some.ensures in
    let shut = shut_first (g.P.Penalty.cost c.args.penalty.now) t c.args.bound (take (sum t) c.fill_channels.new.places) filled.1 c.in-Some.window found in
    (omega arith, filled.0, shut.0, shut.1)

pub returns-in-None-clause-filled : goal.returns-in-None-clause-filled
returns-in-None-clause-filled g c =
    let t = c.args.table.now.by_channel in
    let filled = c.in_ok-fill_channels.ensures.filled in
    let found = rw (c.from-total.ensures, c.total.ensures) at c.in-None.ensures in (
      omega arith,
      record {
        unblocked = filled.0;
        unshut = shut_none (g.P.Penalty.cost c.args.penalty.now) t c.args.bound (take (sum t) c.fill_channels.new.places) filled.1 found;
        windows = filled.1;
      },
    )
