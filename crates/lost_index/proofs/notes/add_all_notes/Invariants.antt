use Rattle.std.proofs.Common.{take}
use Rattle.lost_index.specs.Notes.{KeepsNotes, HaveNotes, AddsAtMost, covers_with}
use Rattle.lost_index.proofs.notes.add_all_notes.Given as goal

abbrev pub invariant-loop-one : goal.invariant-loop-one
invariant-loop-one g l = record {
  noted : HaveNotes g.P.Key.PartialEq.eq g.P.Outline.PartialEq.eq g.P.Profile.cover_of g.P.Profile.outline_of l.number (take l.one-index l.new) l.cells;
  keeps : KeepsNotes g.P.Key.PartialEq.eq g.P.Outline.PartialEq.eq l.initial.cells l.cells;
  only : AddsAtMost g.P.Key.PartialEq.eq g.P.Outline.PartialEq.eq l.number
      (covers_with g.P.Key.PartialEq.eq g.P.Outline.PartialEq.eq g.P.Profile.cover_of g.P.Profile.outline_of l.new) l.initial.cells l.cells;
}
