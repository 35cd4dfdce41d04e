use Rattle.std.proofs.Common.{take}
use Rattle.std.specs.List.{list_any}
use Rattle.lost_index.specs.Notes.{TakesBack, TakesOut}
use Rattle.lost_index.proofs.notes.remove_notes_under.Given as goal

abbrev pub invariant-loop-position : goal.invariant-loop-position
invariant-loop-position g l = record {
  taken : TakesOut g.P.Key.PartialEq.eq g.P.Outline.PartialEq.eq g.P.Profile.cover_of g.P.Profile.outline_of l.number l.remaining
      (λ key. list_any (g.P.Key.PartialEq.eq key) (take l.position (g.P.Profile.cover_of l.one))) l.initial.cells l.cells;
  fewer : TakesBack g.P.Key.PartialEq.eq g.P.Outline.PartialEq.eq l.initial.cells l.cells;
}
