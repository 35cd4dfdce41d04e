-- Under the key there is the note, and nothing was there.
use Rattle.std.proofs.Common.{◌≡◌, [], true, refl, Some, ap, subst}
use Rattle.lost_index.specs.Notes.{notes_of, has_note}
use Rattle.lost_index.proofs.CellLemmas.{AddsAtMost-cell, noted_along, is_some_first, nothing_noted}
use Rattle.lost_index.proofs.cells.insert_cell.Goals as goal

pub returns-clause-keeps : goal.returns-clause-keeps
returns-clause-keeps g c = λ key number outline noted.
    noted_along g.P.Key.PartialEq.eq g.met.P.Key.Eq.laws.congr g.P.Outline.PartialEq.eq c.args.cells.now c.insert.new.self c.args.key [] (Some c.in_ok-of.field-0)
    (ap notes_of c.requires) c.in_ok-insert.ensures.updates.0
    key number outline (λ here stands. absurd (nothing_noted g.P.Outline.PartialEq.eq number outline [] refl stands)) noted

pub returns-clause-only : goal.returns-clause-only
returns-clause-only g c =
    AddsAtMost-cell g.P.Key.PartialEq.eq g.met.P.Key.Eq.laws g.P.Outline.PartialEq.eq c.args.cells.now c.insert.new.self
    c.args.key [] c.in_ok-of.field-0 c.args.note (ap notes_of c.requires) c.in_ok-insert.ensures.updates.0
    (λ listed. is_some_first c.args.note c.in_ok-of.field-0 [] c.in_ok-of.ensures)
    (λ number outline stands. subst (λ l. has_note g.P.Outline.PartialEq.eq number outline l ≡ true) c.in_ok-of.ensures stands)
