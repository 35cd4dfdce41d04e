-- The note stands under the keys so far, and at most under those of the region.
use Rattle.std.proofs.Common.{◌&&◌, All, take}
use Rattle.std.specs.List.{list_any}
use Rattle.lost_index.specs.Notes.{HasNote, KeepsNotes, AddsAtMost}
use Rattle.lost_index.proofs.notes.add_notes_under.Given as goal

abbrev pub invariant-loop-position : goal.invariant-loop-position
invariant-loop-position g l = record {
  noted : All (λ key. HasNote g.P.Key.PartialEq.eq g.P.Outline.PartialEq.eq l.cells key l.note.number l.note.outline) (take l.position (g.P.Profile.cover_of l.one));
  keeps : KeepsNotes g.P.Key.PartialEq.eq g.P.Outline.PartialEq.eq l.initial.cells l.cells;
  only : AddsAtMost g.P.Key.PartialEq.eq g.P.Outline.PartialEq.eq l.note.number
      (λ key outline. g.P.Outline.PartialEq.eq outline l.note.outline && list_any (g.P.Key.PartialEq.eq key) (g.P.Profile.cover_of l.one)) l.initial.cells l.cells;
}
