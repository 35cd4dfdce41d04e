-- The regions in front of the part go first, and then those behind it.
use Rattle.std.proofs.Common.{◌-◌, length, length-drop, drop, take_all, subst, arith}
use Rattle.std.specs.List.{slice_range}
use Rattle.lost_index.specs.Notes.{covers, IsNotedOnlyFor}
use Rattle.lost_index.proofs.OnlyLemmas.{TakesBack-two, only-rest}
use Rattle.lost_index.proofs.notes.remove_rest_notes.Goals as goal

pub returns-clause-fewer : goal.returns-clause-fewer
returns-clause-fewer g c =
    TakesBack-two g.P.Key.PartialEq.eq g.P.Outline.PartialEq.eq c.args.cells.now c.remove_notes.new.cells c.remove_notes-2.new.cells
    c.remove_notes.ensures.fewer c.remove_notes-2.ensures.fewer

pub returns-clause-gone : goal.returns-clause-gone
returns-clause-gone g c =
    let kept = c.args.kept.now in
    let long = length-drop c.args.to kept in
    only-rest g.P.Key.PartialEq.eq g.P.Outline.PartialEq.eq g.P.Profile.cover_of g.P.Profile.outline_of c.args.cells.now c.remove_notes.new.cells c.remove_notes-2.new.cells
    c.args.number kept c.args.from c.args.to c.requires.in_order c.remove_notes.ensures.taken.gone c.remove_notes.ensures.fewer
    (subst (λ regions. IsNotedOnlyFor g.P.Key.PartialEq.eq g.P.Outline.PartialEq.eq g.P.Profile.cover_of g.P.Profile.outline_of c.args.number (slice_range kept c.args.from c.args.to)
    (covers g.P.Key.PartialEq.eq g.P.Profile.cover_of regions) c.remove_notes-2.new.cells)
    (take_all (length kept - c.args.to) (drop c.args.to kept) (omega arith)) c.remove_notes-2.ensures.taken.gone)
    c.remove_notes-2.ensures.fewer
