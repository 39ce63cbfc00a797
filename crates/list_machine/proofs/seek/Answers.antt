-- `list_machine::seek` meets its contract: where offsets that ascend are parted is the first that is not below the index. Assumes nothing.
use Rattle.std.proofs.Common.{rules, ltb}
use Rattle.std.proofs.lemmas.List.Sorted.{IsPartitionPoint-from_clause}
use Rattle.list_machine.proofs.Laws.Seeks.{parted, sought}
use Rattle.list_machine.proofs.seek.Goals as goal

pub returns : goal.returns
returns c =
    let os = c.args.offsets.now in
    let index = c.args.index in
    let found = c.partition_point.ensures in
    sought os index _ found.bound
    (λ a. IsPartitionPoint-from_clause (λ o. ltb o index) os _ found.partitioned (parted os index a) (λ x r f k. search rules))
