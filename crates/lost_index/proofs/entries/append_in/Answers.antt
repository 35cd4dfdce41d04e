-- A number that is held stands at its place, and what is written back there are its regions with the new ones behind them.
use Rattle.std.proofs.Common.{◌++◌, ap, set, ◌∙◌}
use Rattle.std.proofs.lemmas.Result.{on_ok_weaker, on_err_weaker}
use Rattle.lost_index.proofs.RisingLemmas.{row_within, changed_there, unchanged_there}
use Rattle.lost_index.proofs.entries.append_in.Goals as goal

pub index_mut-requires : goal.index_mut-requires
index_mut-requires g c = row_within c.args.number c.args.chunk.now _ _ c.deref.ensures.value c.requires c.place_in-place.ensures

pub returns-clause-appended : goal.returns-clause-appended
returns-clause-appended g c =
    let rows = c.args.chunk.now.items in
    let here = c.index_mut.result.now in
    on_ok_weaker c.append.result (λ appended.
    ap (λ regions. set rows c.place_in-place.result (here.0, regions)) appended
    ∙ changed_there c.args.number (λ regions. regions ++ c.args.more.now) rows c.place_in-place.result here c.requires
    (rw c.deref.ensures.value at c.place_in-place.ensures) c.index_mut.ensures.value) c.append.ensures.appended

pub returns-clause-refused : goal.returns-clause-refused
returns-clause-refused g c =
    let rows = c.args.chunk.now.items in
    let here = c.index_mut.result.now in
    on_err_weaker c.append.result (λ refused.
    ap (λ regions. set rows c.place_in-place.result (here.0, regions)) refused ∙ unchanged_there rows c.place_in-place.result here c.index_mut.ensures.value)
    c.append.ensures.refused
