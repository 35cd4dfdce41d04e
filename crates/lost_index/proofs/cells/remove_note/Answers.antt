-- The cell goes with its last note.
use Rattle.lost_index.proofs.CellLemmas.{TakesBack-left, TakesBack-emptied, TakesOut-emptied}
use Rattle.lost_index.proofs.cells.remove_note.Goals as goal

pub returns-then-remove_from_cell-clause-taken : goal.returns-then-remove_from_cell-clause-taken
returns-then-remove_from_cell-clause-taken g c =
    let gone = c.remove_from_cell.ensures in
    TakesOut-emptied g.P.Key.PartialEq.eq g.met.P.Key.Eq.laws g.P.Outline.PartialEq.eq c.args.cells.now c.remove_from_cell.new.cells c.args.key.now gone.elsewhere gone.noted
    c.remove.new.self (gone.empty c.if-remove_from_cell.true) c.remove.ensures.updates.0
    g.P.Profile.cover_of g.P.Profile.outline_of c.args.number c.args.remaining.now (λ other. g.P.Key.PartialEq.eq other c.args.key.now) gone.taken

pub returns-then-remove_from_cell-clause-fewer : goal.returns-then-remove_from_cell-clause-fewer
returns-then-remove_from_cell-clause-fewer g c =
    let gone = c.remove_from_cell.ensures in
    TakesBack-emptied g.P.Key.PartialEq.eq g.met.P.Key.Eq.laws g.P.Outline.PartialEq.eq c.args.cells.now c.remove_from_cell.new.cells c.args.key.now gone.elsewhere gone.noted
    c.remove.new.self (gone.empty c.if-remove_from_cell.true) c.remove.ensures.updates.0

pub returns-else-remove_from_cell-clause-fewer : goal.returns-else-remove_from_cell-clause-fewer
returns-else-remove_from_cell-clause-fewer g c =
    let left = c.remove_from_cell.ensures in
    TakesBack-left g.P.Key.PartialEq.eq g.met.P.Key.Eq.laws g.P.Outline.PartialEq.eq c.args.cells.now c.remove_from_cell.new.cells c.args.key.now left.elsewhere left.noted
    (left.some c.if-remove_from_cell.false)
