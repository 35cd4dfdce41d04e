use Rattle.std.proofs.Common.{take}
use Rattle.lost_index.specs.Notes.{TakesBack, TakesOut, covers}
use Rattle.lost_index.proofs.notes.remove_notes.Given as goal

abbrev pub invariant-loop-one : goal.invariant-loop-one
invariant-loop-one g l = record {
  taken : TakesOut g.P.Key.PartialEq.eq g.P.Outline.PartialEq.eq g.P.Profile.cover_of g.P.Profile.outline_of l.number l.remaining
      (covers g.P.Key.PartialEq.eq g.P.Profile.cover_of (take l.one-index l.gone)) l.initial.cells l.cells;
  fewer : TakesBack g.P.Key.PartialEq.eq g.P.Outline.PartialEq.eq l.initial.cells l.cells;
}
