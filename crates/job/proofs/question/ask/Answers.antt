-- The series is made, and its last reply is right.
use Rattle.std.proofs.Common.{refl, arith}
use Rattle.sequencing.specs.Memory.{memory}
use Rattle.job.proofs.Adding.{enough_asked, right_asked}
use Rattle.job.proofs.question.ask.Goals as goal

pub unreachable-requires : goal.unreachable-requires
unreachable-requires g c =
    let own = c.args in
    let adds = c.put_adds-channels in
    c.in_default.ensures.0 (enough_asked own.readings.now.by_channel own.question adds.new.calls adds.result (memory own.windows.now own.ready.now own.list.now) adds.array_long adds.ensures c.requires)

pub returns : goal.returns
returns g c =
    let own = c.args in
    let adds = c.put_adds-channels in
    let same = c.play.auto in
    right_asked own.readings.now.by_channel own.question adds.new.calls adds.result (memory own.windows.now own.ready.now own.list.now) adds.array_long adds.ensures c.requires
    _ (omega (arith, same.replies)) (rw (same.windows, same.ready, same.list) refl) c.in-Ok.ensures.1
