-- What was noted is taken back, but for the regions that remain.
use Rattle.lost_index.proofs.OnlyLemmas.{AddsAtMost-taken_back}
use Rattle.lost_index.proofs.notes.add_notes.Goals as goal

pub returns-then-is_err-clause-refused : goal.returns-then-is_err-clause-refused
returns-then-is_err-clause-refused g c =
    AddsAtMost-taken_back g.P.Key.PartialEq.eq g.P.Outline.PartialEq.eq c.args.cells.now c.add_all_notes.new.cells c.remove_notes.new.cells
    g.P.Profile.cover_of g.P.Profile.outline_of c.args.number c.args.new.now c.args.remaining.now
    c.add_all_notes.ensures.only c.remove_notes.ensures.fewer c.remove_notes.ensures.taken.gone
