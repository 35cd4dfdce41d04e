-- What stays in the cell stays noted, and what goes is noted no more.
use Rattle.std.proofs.Common.{is_some, sym, ap, subst, ◌∙◌}
use Rattle.std.specs.HashMap.{get}
use Rattle.std.specs.HashMap.Eq.{lookup_congr}
use Rattle.lost_index.specs.Notes.{notes_of, TakesOut}
use Rattle.lost_index.proofs.CellLemmas.{nothing_noted}
use Rattle.lost_index.proofs.OnlyLemmas.{TakesOut-none}
use Rattle.lost_index.proofs.StayLemmas.{TakesOut-taken, KeepsNotes-taken}
use Rattle.lost_index.proofs.cells.remove_from_cell.Goals as goal

pub returns-in_default-clause-taken : goal.returns-in_default-clause-taken
returns-in_default-clause-taken g c =
    let eq = g.P.Key.PartialEq.eq in
    let same = g.P.Outline.PartialEq.eq in
    subst (TakesOut eq same g.P.Profile.cover_of g.P.Profile.outline_of c.args.number c.args.remaining.now (λ other. eq other c.args.key.now) c.args.cells.now)
    (sym c.get_mut.follows.holds-at-none)
    (TakesOut-none eq same c.args.cells.now g.P.Profile.cover_of g.P.Profile.outline_of c.args.number c.args.remaining.now (λ other. eq other c.args.key.now)
    (λ key outline at. nothing_noted same c.args.number outline (notes_of (get eq c.args.cells.now key))
    (ap notes_of (lookup_congr eq g.met.P.Key.Eq.laws.congr c.args.cells.now.entries key c.args.key.now at) ∙ ap notes_of (sym c.in_default.ensures.value))))

pub returns-clause-taken : goal.returns-clause-taken
returns-clause-taken g c =
    TakesOut-taken g.P.Key.PartialEq.eq g.met.P.Key.Eq.laws g.P.Outline.PartialEq.eq g.met.P.Outline.Eq.laws g.P.Profile.cover_of g.P.Profile.outline_of
    c.args.number c.args.remaining.now c.args.cells.now (c.get_mut.follows.lender c.remove.new.self) c.args.key.now c.in-Some.cell.now c.remove.new.self
    (ap notes_of (sym c.in-Some.ensures.value)) ((c.get_mut.follows.holds c.remove.new.self).3 (ap is_some (sym c.in-Some.ensures.value))).0 c.remove.ensures

pub returns-clause-noted : goal.returns-clause-noted
returns-clause-noted g c =
    KeepsNotes-taken g.P.Key.PartialEq.eq g.met.P.Key.Eq.laws g.P.Outline.PartialEq.eq g.met.P.Outline.Eq.laws g.P.Profile.cover_of g.P.Profile.outline_of
    c.args.number c.args.remaining.now c.args.cells.now (c.get_mut.follows.lender c.remove.new.self) c.args.key.now c.in-Some.cell.now c.remove.new.self
    (ap notes_of (sym c.in-Some.ensures.value)) ((c.get_mut.follows.holds c.remove.new.self).3 (ap is_some (sym c.in-Some.ensures.value))).0 c.remove.ensures
