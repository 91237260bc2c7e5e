-- The channels before this one are done.
use Rattle.windows.proofs.Channels.{ChannelsDone}
use Rattle.windows.proofs.entry.fill_channels.Given as goal

abbrev pub invariant-loop-channel : goal.invariant-loop-channel
invariant-loop-channel g l =
    ChannelsDone (g.P.Penalty.cost l.penalty) l.table.by_channel l.bound l.initial.places l.channel l.start l.blocked l.places
