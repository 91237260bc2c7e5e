-- The number.
use Rattle.job.proofs.Numbers.{begins_4}
use Rattle.job.proofs.record.split_u32.Goals as goal

pub returns : goal.returns
returns c = begins_4 c.args.body.now c.from_be_bytes.result c.in-len4-up.len_at_least c.from_be_bytes.ensures
