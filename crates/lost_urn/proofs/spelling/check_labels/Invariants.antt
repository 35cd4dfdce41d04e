use Rattle.std.proofs.Common.{◌≡◌, None, map, length}
use Rattle.lost_urn.proofs.SpellingLemmas.{raw_fault}
use Rattle.lost_urn.proofs.spelling.check_labels.Given as goal

abbrev pub invariant-loop-label : goal.invariant-loop-label
invariant-loop-label l = record { no_fault : raw_fault (map (λ x. x.now) l.yielded) ≡ None; counted : l.depth ≡ length l.yielded }
