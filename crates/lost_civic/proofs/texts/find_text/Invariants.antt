use Rattle.std.proofs.Common.{◌≡◌, drop}
use Rattle.lost_spec.specs.Civic.{value_of}
use Rattle.lost_civic.specs.Element.{element_name}
use Rattle.lost_civic.specs.Texts.{seen_compared}
use Rattle.lost_civic.proofs.texts.find_text.Given as goal

abbrev pub invariant-loop-compared : goal.invariant-loop-compared
invariant-loop-compared l =
    value_of (element_name l.element) (seen_compared l.list) ≡ value_of (element_name l.element) (seen_compared (drop l.compared-index l.list))
