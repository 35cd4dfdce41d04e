-- None of those before the position is such a note.
use Rattle.std.proofs.Common.{◌≡◌, false}
use Rattle.std.specs.List.{AllWithin}
use Rattle.lost_index.specs.Notes.{is_note}
use Rattle.lost_index.proofs.cell.Cell.has.Given as goal

abbrev pub invariant-loop-position : goal.invariant-loop-position
invariant-loop-position g l =
    AllWithin (λ here. is_note g.P.Outline.PartialEq.eq l.note.number l.note.outline here ≡ false) l.self l.start l.position
