use Rattle.std.proofs.Common.{◌≡◌}
use Rattle.lost_civicdex.specs.KeyLemmas.{keys_before}
use Rattle.lost_civicdex.proofs.texts.make_keys.Given as goal

abbrev pub invariant-loop-element : goal.invariant-loop-element
invariant-loop-element g l =
    l.keys.items ≡ keys_before (g.T.ElementTexts.pairs_of l.texts) l.elements l.element-index
