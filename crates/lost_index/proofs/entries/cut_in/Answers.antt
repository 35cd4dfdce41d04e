-- A number that is held stands at its place, and what is written back there is the part of its regions.
use Rattle.std.proofs.Common.{ap, set, ◌∙◌}
use Rattle.std.specs.List.{slice_range}
use Rattle.lost_index.proofs.RisingLemmas.{row_within, changed_there, contained_there}
use Rattle.lost_index.proofs.entries.cut_in.Goals as goal

pub index_mut-requires : goal.index_mut-requires
index_mut-requires g c = row_within c.args.number c.args.chunk.now _ _ c.deref.ensures.value c.requires.row c.place_in-place.ensures

pub cut-requires-clause-within : goal.cut-requires-clause-within
cut-requires-clause-within g c =
    c.requires.within c.index_mut.result.now.1
    (contained_there c.args.number c.args.chunk.now.items c.place_in-place.result c.index_mut.result.now c.requires.row
    (rw c.deref.ensures.value at c.place_in-place.ensures) c.index_mut.ensures.value)

pub returns : goal.returns
returns g c =
    let rows = c.args.chunk.now.items in
    let here = c.index_mut.result.now in
    ap (λ regions. set rows c.place_in-place.result (here.0, regions)) c.cut.ensures
    ∙ changed_there c.args.number (λ regions. slice_range regions c.args.from c.args.to) rows c.place_in-place.result here c.requires.row
    (rw c.deref.ensures.value at c.place_in-place.ensures) c.index_mut.ensures.value
