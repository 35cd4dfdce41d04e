-- The row stands alone in a chunk behind the others.
use Rattle.std.proofs.Common.{◌++◌, ◌∷◌, [], ◌+◌, ap, sym, subst, ◌∙◌}
use Rattle.lost_index.specs.Chunks.{AreChunks}
use Rattle.lost_index.proofs.ChunkLemmas.{chunks_put_behind}
use Rattle.lost_index.proofs.chunks.put.Goals as goal

pub returns-in-Ok-clause-chunks : goal.returns-in-Ok-clause-chunks
returns-in-Ok-clause-chunks g c =
    subst AreChunks (sym (c.push_reserved.ensures.items ∙ ap (λ cs. cs ++ c.push.new.self ∷ []) c.reserve.ensures.items))
    (chunks_put_behind c.args.chunks.now.items c.push.new.self c.args.number c.args.value c.requires.chunks c.requires.above
    (c.in-Ok.ensures.items ∙ ap (λ rows. rows ++ (c.args.number, c.args.value) ∷ []) c.new-chunk.ensures.items)
    (c.in-Ok.ensures.len ∙ ap (λ len. len + 1) c.new-chunk.ensures.len))
