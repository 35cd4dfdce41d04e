-- A number that is held stands in its chunk, and is taken out of all rows with it.
use Rattle.std.proofs.Common.{nat_eq, ◌<◌, ap, sym, subst, ◌∙◌}
use Rattle.std.specs.Map.{lookup}
use Rattle.std.proofs.lemmas.List.{length-set}
use Rattle.lost_index.proofs.ChunkLemmas.{chunk_within, chunk_has, within_held, lookup_here, taken_rows, taken_rising, filled_remove}
use Rattle.lost_index.proofs.chunks.remove.Goals as goal

pub index_mut-requires : goal.index_mut-requires
index_mut-requires g c =
    chunk_within c.args.number c.args.chunks.now _ _ c.deref.ensures.value c.requires.chunks c.chunk_of-position.ensures c.requires.held

pub remove_in-value-requires : goal.remove_in-value-requires
remove_in-value-requires g c =
    chunk_has c.args.number c.args.chunks.now _ _ c.deref.ensures.value c.requires.chunks c.chunk_of-position.ensures c.requires.held
    c.index_mut.result.now c.index_mut.ensures.value

pub drop_empty-requires-clause-within : goal.drop_empty-requires-clause-within
drop_empty-requires-clause-within g c =
    let cs = c.args.chunks.now.items in
    subst (λ len. c.chunk_of-position.result < len) (sym (length-set cs c.chunk_of-position.result c.remove_in-value.new.chunk))
    (within_held c.args.number cs c.chunk_of-position.result c.requires.chunks.rising (rw c.deref.ensures.value at c.chunk_of-position.ensures) c.requires.held)

pub drop_empty-requires-clause-rising : goal.drop_empty-requires-clause-rising
drop_empty-requires-clause-rising g c =
    taken_rising c.args.number c.args.chunks.now.items c.chunk_of-position.result c.index_mut.result.now c.remove_in-value.new.chunk c.requires.chunks
    (rw c.deref.ensures.value at c.chunk_of-position.ensures) c.requires.held c.index_mut.ensures.value c.remove_in-value.ensures.rest

pub drop_empty-requires-clause-others : goal.drop_empty-requires-clause-others
drop_empty-requires-clause-others g c =
    filled_remove c.args.chunks.now.items c.chunk_of-position.result c.remove_in-value.new.chunk c.requires.chunks.filled

pub returns-clause-value : goal.returns-clause-value
returns-clause-value g c =
    let cs = c.args.chunks.now.items in
    let at = rw c.deref.ensures.value at c.chunk_of-position.ensures in
    lookup_here c.args.number cs c.chunk_of-position.result c.index_mut.result.now c.requires.chunks.rising at
    (within_held c.args.number cs c.chunk_of-position.result c.requires.chunks.rising at c.requires.held)
    ∙ ap (λ e. lookup (nat_eq c.args.number) e.items) (sym c.index_mut.ensures.value) ∙ c.remove_in-value.ensures.value

pub returns-clause-rest : goal.returns-clause-rest
returns-clause-rest g c =
    c.drop_empty.ensures.same
    ∙ taken_rows c.args.number c.args.chunks.now.items c.chunk_of-position.result c.index_mut.result.now c.remove_in-value.new.chunk c.requires.chunks
    (rw c.deref.ensures.value at c.chunk_of-position.ensures) c.requires.held c.index_mut.ensures.value c.remove_in-value.ensures.rest
