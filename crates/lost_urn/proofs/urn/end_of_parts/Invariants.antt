use Rattle.std.proofs.Common.{◌≡◌, ◌+◌, ◌<◌, take}
use Rattle.lost_urn.proofs.CutLemmas.{dots}
use Rattle.lost_urn.proofs.urn.end_of_parts.Given as goal

abbrev pub invariant-loop-at : goal.invariant-loop-at
invariant-loop-at l = record { counted : dots (take l.at l.text) + l.left ≡ l.n; some_left : 0 < l.left }
