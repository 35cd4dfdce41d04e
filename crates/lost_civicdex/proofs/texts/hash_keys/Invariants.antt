use Rattle.std.proofs.Common.{◌≡◌}
use Rattle.lost_civicdex.proofs.MadeLemmas.{made_before}
use Rattle.lost_civicdex.specs.HashedKeys.{hashed}
use Rattle.lost_civicdex.proofs.texts.hash_keys.Given as goal

abbrev pub invariant-loop-element : goal.invariant-loop-element
invariant-loop-element g l =
    l.keys.items ≡ made_before hashed (g.T.ElementTexts.pairs_of l.texts) l.elements l.element-index
