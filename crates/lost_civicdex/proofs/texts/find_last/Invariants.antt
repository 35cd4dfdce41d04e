use Rattle.std.proofs.Common.{◌≡◌, option_map}
use Rattle.lost_civic.specs.Element.{all_elements}
use Rattle.lost_civicdex.specs.Keys.{last_of}
use Rattle.lost_civicdex.specs.KeyLemmas.{keys_before}
use Rattle.lost_civicdex.proofs.texts.find_last.Given as goal

abbrev pub invariant-loop-element : goal.invariant-loop-element
invariant-loop-element g l =
    option_map (λ found. (found.0, found.1.now)) l.last ≡ last_of (keys_before (g.T.ElementTexts.pairs_of l.texts) all_elements l.element-index)
