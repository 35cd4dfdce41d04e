-- Under the key there is at most the note more.
use Rattle.std.proofs.Common.{◌≢◌, [], is_some, IfSome, sym, ap, subst}
use Rattle.lost_index.specs.Notes.{notes_of}
use Rattle.lost_index.proofs.CellLemmas.{AddsAtMost-cell, some_kept}
use Rattle.lost_index.proofs.cells.add_note.Goals as goal

pub returns-in-Some-clause-only : goal.returns-in-Some-clause-only
returns-in-Some-clause-only g c =
    AddsAtMost-cell g.P.Key.PartialEq.eq g.met.P.Key.Eq.laws g.P.Outline.PartialEq.eq c.args.cells.now (c.get_mut.follows.lender c.add.new.self)
    c.args.key c.in-Some.cell.now c.add.new.self c.args.note (ap notes_of (sym c.in-Some.ensures.value))
    ((c.get_mut.follows.holds c.add.new.self).3 (ap is_some (sym c.in-Some.ensures.value))).0
    (λ listed. some_kept g.P.Outline.PartialEq.eq g.met.P.Outline.Eq.laws.refl c.in-Some.cell.now c.add.new.self c.add.ensures.keeps
    (subst (λ o. IfSome o (λ notes. notes ≢ [])) (sym c.in-Some.ensures.value) (listed c.args.key)))
    c.add.ensures.only
