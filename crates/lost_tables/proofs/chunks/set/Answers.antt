-- An element stands in the chunk of its position, and is put into the list with it.
use Rattle.std.proofs.Common.{refl, ◌/◌}
use Rattle.lost_tables.proofs.ChunkLemmas.{row_within, spot_within, filled_set, replaced}
use Rattle.lost_tables.proofs.chunks.set.Goals as goal

pub bounds-chunks-position : goal.bounds-chunks-position
bounds-chunks-position g c = row_within c.args.chunks.now c.args.position c.requires.filled c.requires.within

pub index_mut-requires : goal.index_mut-requires
index_mut-requires g c =
    spot_within c.args.chunks.now c.args.position c.index-chunks-position.result c.requires.filled c.requires.within

pub returns-clause-filled : goal.returns-clause-filled
returns-clause-filled g c =
    filled_set c.args.chunks.now (c.args.position / 512) c.index-chunks-position.result _ c.requires.filled
    (row_within c.args.chunks.now c.args.position c.requires.filled c.requires.within) refl

pub returns-clause-set : goal.returns-clause-set
returns-clause-set g c =
    replaced c.args.chunks.now c.args.position c.index-chunks-position.result _ c.args.element c.requires.filled c.requires.within refl
