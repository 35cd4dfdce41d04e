use Rattle.std.proofs.Common.{◌≡◌, drop}
use Rattle.lost_spec.specs.Civic.{value_of}
use Rattle.lost_civic.specs.Pairs.{seen_pairs}
use Rattle.lost_civic.proofs.texts.find_value.Given as goal

abbrev pub invariant-loop-pair : goal.invariant-loop-pair
invariant-loop-pair l = value_of l.name (seen_pairs l.pairs) ≡ value_of l.name (seen_pairs (drop l.pair-index l.pairs))
