use Rattle.std.proofs.Common.{◌≡◌, map, take}
use Rattle.lost_civic.specs.Element.{all_elements}
use Rattle.lost_civic.specs.Pairs.{seen_pairs}
use Rattle.lost_civic.specs.Texts.{text_of, seen_table}
use Rattle.lost_civic.proofs.texts.make_table.Given as goal

abbrev pub invariant-loop-element : goal.invariant-loop-element
invariant-loop-element l =
    seen_table l.texts.items ≡ map (λ element. text_of element (seen_pairs l.pairs)) (take l.element-index all_elements)
