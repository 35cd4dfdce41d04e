-- So many are still to be passed over, after those before the element.
use Rattle.std.proofs.Common.{◌≡◌, ◌+◌, length}
use Rattle.lost_civic.specs.Element.{all_elements}
use Rattle.lost_civicdex.specs.KeyLemmas.{keys_before}
use Rattle.lost_civicdex.proofs.texts.find_nth.Given as goal

abbrev pub invariant-loop-element : goal.invariant-loop-element
invariant-loop-element g l =
    length (keys_before (g.T.ElementTexts.pairs_of l.texts) all_elements l.element-index) + l.left ≡ l.fn.position
