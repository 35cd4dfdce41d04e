-- A number that is held stands in its chunk.
use Rattle.std.proofs.Common.{Contains, subst}
use Rattle.std.specs.List.{slice_range}
use Rattle.lost_index.proofs.ChunkLemmas.{chunk_within, chunk_has, within_held, contains_all, changed_rows, changed_chunks}
use Rattle.lost_index.proofs.entries.cut.Goals as goal

pub cut_in-requires-clause-within : goal.cut_in-requires-clause-within
cut_in-requires-clause-within g c = λ regions stands.
    let cs = c.args.chunks.now.items in
    c.requires.within regions
    (contains_all cs c.chunk_of-position.result c.index_mut.result.now (c.args.number, regions)
    (within_held c.args.number cs c.chunk_of-position.result c.requires.chunks.rising (rw c.deref.ensures.value at c.chunk_of-position.ensures) c.requires.held)
    (subst (λ e. Contains e.items (c.args.number, regions)) c.index_mut.ensures.value stands))

pub cut_in-requires-clause-row : goal.cut_in-requires-clause-row
cut_in-requires-clause-row g c =
    chunk_has c.args.number c.args.chunks.now _ _ c.deref.ensures.value c.requires.chunks c.chunk_of-position.ensures c.requires.held
    c.index_mut.result.now c.index_mut.ensures.value

pub index_mut-requires : goal.index_mut-requires
index_mut-requires g c =
    chunk_within c.args.number c.args.chunks.now _ _ c.deref.ensures.value c.requires.chunks c.chunk_of-position.ensures c.requires.held

pub returns-clause-chunks : goal.returns-clause-chunks
returns-clause-chunks g c =
    changed_chunks c.args.number (λ regions. slice_range regions c.args.from c.args.to) c.args.chunks.now.items c.chunk_of-position.result
    c.index_mut.result.now c.cut_in.new.chunk c.requires.chunks (rw c.deref.ensures.value at c.chunk_of-position.ensures) c.requires.held
    c.index_mut.ensures.value c.cut_in.ensures

pub returns-clause-cut : goal.returns-clause-cut
returns-clause-cut g c =
    changed_rows c.args.number (λ regions. slice_range regions c.args.from c.args.to) c.args.chunks.now.items c.chunk_of-position.result
    c.index_mut.result.now c.cut_in.new.chunk c.requires.chunks (rw c.deref.ensures.value at c.chunk_of-position.ensures) c.requires.held
    c.index_mut.ensures.value c.cut_in.ensures
