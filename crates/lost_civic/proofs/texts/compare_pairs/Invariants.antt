use Rattle.std.proofs.Common.{◌≡◌, take}
use Rattle.lost_civic.specs.Pairs.{seen_pairs}
use Rattle.lost_civic.specs.Texts.{compared_of, seen_compared}
use Rattle.lost_civic.proofs.texts.compare_pairs.Given as goal

abbrev pub invariant-loop-pair : goal.invariant-loop-pair
invariant-loop-pair l = seen_compared l.list.items ≡ compared_of (seen_pairs (take l.pair-index l.pairs))
