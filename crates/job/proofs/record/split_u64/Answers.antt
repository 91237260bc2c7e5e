-- The number.
use Rattle.job.proofs.Numbers.{begins_8}
use Rattle.job.proofs.record.split_u64.Goals as goal

pub returns : goal.returns
returns c = begins_8 c.args.body.now c.from_be_bytes-number.result c.in-len8-up.len_at_least c.from_be_bytes-number.ensures
