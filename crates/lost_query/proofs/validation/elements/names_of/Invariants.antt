use Rattle.std.proofs.Common.{◌≡◌, map, take}
use Rattle.lost_civic.specs.Element.{element_name}
use Rattle.lost_mapping.specs.Texts.{texts_of}
use Rattle.lost_query.proofs.validation.elements.names_of.Given as goal

abbrev pub invariant-loop-element : goal.invariant-loop-element
invariant-loop-element l = texts_of l.names.items ≡ map element_name (take l.element-index l.elements)
