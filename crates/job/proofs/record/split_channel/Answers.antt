-- The channel and the number.
use Rattle.job.proofs.Numbers.{begins_channel}
use Rattle.job.proofs.record.split_channel.Goals as goal

pub returns : goal.returns
returns c = begins_channel c.args.body.now c.from_be_bytes.result c.in-len3-up.len_at_least c.from_be_bytes.ensures
