-- No chunk is empty and the numbers rise, so the chunks that end below one stand in front.
use Rattle.std.proofs.Common.{rules}
use Rattle.std.proofs.lemmas.List.Sorted.{IsPartitionPoint-from_clause}
use Rattle.std.specs.Vec.{vec_items}
use Rattle.lost_index.specs.Chunks.{ends_below}
use Rattle.lost_index.proofs.ChunkLemmas.{chunks_parted}
use Rattle.lost_index.proofs.chunks.chunk_of.Goals as goal

pub returns : goal.returns
returns g c =
    IsPartitionPoint-from_clause (λ chunk. ends_below c.args.number (vec_items chunk)) _ _ c.partition_point.ensures.partitioned
    (chunks_parted c.args.number c.args.chunks.now c.requires.rising c.requires.filled) (λ a r q k. search rules)
