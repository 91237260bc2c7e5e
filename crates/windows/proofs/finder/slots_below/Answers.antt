-- The place at which the counts part.
use Rattle.std.proofs.Common.{◌+◌, ltb, take, arith, rules}
use Rattle.std.proofs.lemmas.List.Sorted.{IsPartitionPoint-from_clause}
use Rattle.windows.proofs.Parts.{parted_take, parts_at}
use Rattle.windows.proofs.finder.slots_below.Goals as goal

pub returns : goal.returns
returns c =
    let xs = c.args.counts.now in
    let m = c.from.result in
    let j = c.args.reading in
    let parted = parted_take xs m j (omega arith) (rw c.from.ensures c.requires.parted) in
    let point = IsPartitionPoint-from_clause (λ n. ltb n j) (take (m + 1) xs) c.partition_point.result c.partition_point.ensures.partitioned parted (λ a r f' k. search rules) in
    let parts = parts_at xs m j (omega arith) c.partition_point.result c.partition_point.ensures.bound point in
    rw c.from.ensures at parts
