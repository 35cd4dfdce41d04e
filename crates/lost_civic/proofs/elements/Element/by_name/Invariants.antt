use Rattle.std.proofs.Common.{◌≡◌, false, take}
use Rattle.std.specs.List.{list_any}
use Rattle.lost_spec.specs.Text.{same_text}
use Rattle.lost_civic.specs.Element.{element_name, all_elements}
use Rattle.lost_civic.proofs.elements.Element.by_name.Given as goal

abbrev pub invariant-loop-element : goal.invariant-loop-element
invariant-loop-element l =
    list_any (λ element. same_text l.name (element_name element)) (take l.element-index all_elements) ≡ false
