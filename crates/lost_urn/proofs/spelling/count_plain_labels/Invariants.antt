use Rattle.std.proofs.Common.{◌≡◌, ◌+◌, ◌≤◌, true, drop}
use Rattle.lost_urn.proofs.PlainLemmas.{labels_from}
use Rattle.lost_urn.proofs.spelling.count_plain_labels.Given as goal

abbrev pub invariant-loop-byte : goal.invariant-loop-byte
invariant-loop-byte l = record { counted : labels_from 1 true l.labels ≡ labels_from l.depth l.unfinished (drop l.byte-index l.labels); few : l.depth ≤ l.byte-index + 1 }
