-- A number that is held stands in its chunk.
use Rattle.std.proofs.Common.{◌++◌, List}
use Rattle.std.proofs.lemmas.Result.{on_ok_weaker, on_err_weaker}
use Rattle.lost_index.proofs.ChunkLemmas.{chunk_within, chunk_has, changed_rows, changed_chunks, unchanged_rows, unchanged_chunks, by_result}
use Rattle.lost_index.proofs.entries.append.Goals as goal

pub index_mut-requires : goal.index_mut-requires
index_mut-requires g c =
    chunk_within c.args.number c.args.chunks.now _ _ c.deref.ensures.value c.requires.chunks c.chunk_of-position.ensures c.requires.held

pub append_in-requires : goal.append_in-requires
append_in-requires g c =
    chunk_has c.args.number c.args.chunks.now _ _ c.deref.ensures.value c.requires.chunks c.chunk_of-position.ensures c.requires.held
    c.index_mut.result.now c.index_mut.ensures.value

pub returns-clause-chunks : goal.returns-clause-chunks
returns-clause-chunks g c =
    let cs = c.args.chunks.now.items in
    let change = λ (regions : List g.row.P-Region.Denot). regions ++ c.args.more.now in
    let at = rw c.deref.ensures.value at c.chunk_of-position.ensures in
    by_result c.append_in.result c.append_in.ensures.appended c.append_in.ensures.refused
    (changed_chunks c.args.number change cs c.chunk_of-position.result c.index_mut.result.now c.append_in.new.chunk c.requires.chunks at c.requires.held c.index_mut.ensures.value)
    (unchanged_chunks c.args.number change cs c.chunk_of-position.result c.index_mut.result.now c.append_in.new.chunk c.requires.chunks at c.requires.held c.index_mut.ensures.value)

pub returns-clause-appended : goal.returns-clause-appended
returns-clause-appended g c =
    on_ok_weaker c.append_in.result
    (changed_rows c.args.number (λ regions. regions ++ c.args.more.now) c.args.chunks.now.items c.chunk_of-position.result c.index_mut.result.now c.append_in.new.chunk
    c.requires.chunks (rw c.deref.ensures.value at c.chunk_of-position.ensures) c.requires.held c.index_mut.ensures.value) c.append_in.ensures.appended

pub returns-clause-refused : goal.returns-clause-refused
returns-clause-refused g c =
    on_err_weaker c.append_in.result
    (unchanged_rows c.args.number (λ regions. regions ++ c.args.more.now) c.args.chunks.now.items c.chunk_of-position.result c.index_mut.result.now c.append_in.new.chunk
    c.requires.chunks (rw c.deref.ensures.value at c.chunk_of-position.ensures) c.requires.held c.index_mut.ensures.value) c.append_in.ensures.refused
