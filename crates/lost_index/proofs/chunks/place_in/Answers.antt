-- The numbers rise, so those below one stand in front.
use Rattle.std.proofs.Common.{ltb, ltb-true, ltb-false, rules}
use Rattle.std.proofs.lemmas.List.Sorted.{IsPartitionPoint-from_clause}
use Rattle.lost_index.proofs.RisingLemmas.{parted}
use Rattle.lost_index.proofs.chunks.place_in.Goals as goal

pub returns : goal.returns
returns g c =
    let number = c.args.number in
    let point = IsPartitionPoint-from_clause (λ row. ltb row.0 number) _ _ c.partition_point.ensures.partitioned
    (parted number c.args.chunk.now c.requires) (λ a r q k. search rules) in
    (λ k d low lt. ltb-true _ _ (point.0 k d low lt), λ k d low lt. ltb-false _ _ (point.1 k d low lt))
