-- From the position on the notes are those that stay.
use Rattle.std.proofs.Common.{◌≡◌}
use Rattle.lost_index.specs.Notes.{stays}
use Rattle.lost_index.proofs.RemovalLemmas.{filtered_from}
use Rattle.lost_index.proofs.cell.Cell.remove.Given as goal

abbrev pub invariant-loop-position : goal.invariant-loop-position
invariant-loop-position g l =
    l.self ≡ filtered_from (stays g.P.Key.PartialEq.eq g.P.Outline.PartialEq.eq g.P.Profile.cover_of g.P.Profile.outline_of l.number l.remaining l.key)
    l.position l.initial.self
