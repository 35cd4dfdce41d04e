use Rattle.std.proofs.Common.{◌≡◌, length}
use Rattle.lost_spec.specs.Text.{has_repeat}
use Rattle.lost_spec.specs.Civic.{names_of}
use Rattle.lost_civic.specs.Pairs.{seen_pairs}
use Rattle.lost_civic.proofs.refusals.repeats_name.Given as goal

abbrev pub invariant-loop-pair : goal.invariant-loop-pair
invariant-loop-pair l = has_repeat (names_of (seen_pairs l.pairs)) ≡ has_repeat (names_of (seen_pairs l.rest))

abbrev pub decreases-loop-pair : goal.decreases-loop-pair
decreases-loop-pair l = length l.rest
