-- The chunk is empty or filled.
use Rattle.std.proofs.Common.{subst, sym, ap, ◌∙◌}
use Rattle.lost_index.specs.Chunks.{AreChunks, rows_of}
use Rattle.lost_index.proofs.ChunkLemmas.{dropped_rows, dropped_chunks, kept_chunks}
use Rattle.lost_index.proofs.chunks.drop_empty.Goals as goal

pub returns-then-is_empty-clause-chunks : goal.returns-then-is_empty-clause-chunks
returns-then-is_empty-clause-chunks g c =
    subst AreChunks (sym c.remove.ensures.items)
    (dropped_chunks c.args.chunks.now.items c.args.position c.index.result.now c.is_empty.result c.requires.within c.index.ensures c.is_empty.ensures
    c.requires.rising c.requires.others c.if-is_empty.true)

pub returns-then-is_empty-clause-same : goal.returns-then-is_empty-clause-same
returns-then-is_empty-clause-same g c =
    ap rows_of c.remove.ensures.items
    ∙ dropped_rows c.args.chunks.now.items c.args.position c.index.result.now c.is_empty.result c.requires.within c.index.ensures c.is_empty.ensures
    c.requires.rising c.requires.others c.if-is_empty.true

pub returns-else-is_empty-clause-chunks : goal.returns-else-is_empty-clause-chunks
returns-else-is_empty-clause-chunks g c =
    kept_chunks c.args.chunks.now.items c.args.position c.index.result.now c.is_empty.result c.requires.within c.index.ensures c.is_empty.ensures
    c.requires.rising c.requires.others c.if-is_empty.false
