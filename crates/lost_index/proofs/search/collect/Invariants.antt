-- What was found so far.
use Rattle.std.proofs.Common.{◌≡◌, ◌++◌, take}
use Rattle.lost_index.specs.Notes.{numbers_near}
use Rattle.lost_index.proofs.search.collect.Given as goal

abbrev pub invariant-loop-note : goal.invariant-loop-note
invariant-loop-note g l =
    l.found.items ≡ l.initial.found.items ++ numbers_near (λ outline. g.P.Profile.may_hold outline l.location) (take l.note-index l.notes)
