-- The channels before this one have their adds.
use Rattle.job.proofs.Adding.{AddsTo}
use Rattle.job.proofs.question.put_adds.Given as goal

abbrev pub invariant-loop-channel : goal.invariant-loop-channel
invariant-loop-channel l = AddsTo l.readings.by_channel l.fn.calls l.calls l.channel l.count
