-- A number that is held stands at its place.
use Rattle.lost_index.proofs.RisingLemmas.{row_within, value_there, removed_there}
use Rattle.std.proofs.Common.{◌∙◌}
use Rattle.lost_index.proofs.chunks.remove_in.Goals as goal

pub remove-value-requires : goal.remove-value-requires
remove-value-requires g c = row_within c.args.number c.args.chunk.now _ _ c.deref.ensures.value c.requires c.place_in-place.ensures

pub returns-clause-value : goal.returns-clause-value
returns-clause-value g c =
    value_there c.args.number c.args.chunk.now.items c.place_in-place.result c.remove-value.result c.requires
    (rw c.deref.ensures.value at c.place_in-place.ensures) c.remove-value.ensures.value

pub returns-clause-rest : goal.returns-clause-rest
returns-clause-rest g c =
    c.give_back.ensures ∙ c.remove-value.ensures.items
    ∙ removed_there c.args.number c.args.chunk.now.items c.place_in-place.result c.remove-value.result c.requires
    (rw c.deref.ensures.value at c.place_in-place.ensures) c.remove-value.ensures.value
