-- The records of the readings so far.
use Rattle.windows.proofs.Places.{FilledTo}
use Rattle.windows.proofs.allowed.Counts.fill_channel.Given as goal

abbrev pub invariant-loop-before : goal.invariant-loop-before
invariant-loop-before g l =
    let own = l.self in
    FilledTo (g.P.Penalty.cost own.penalty.now) own.table.now.by_channel own.bound own.channel l.start l.initial.places l.before l.places
