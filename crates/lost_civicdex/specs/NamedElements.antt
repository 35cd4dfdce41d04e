-- The elements that a pattern names, under which it is kept.
use Rattle.std.specs.Prelude.{Bool, List, [], ◌∷◌, map}
use Rattle.lost_spec.specs.Civic.{Pairs}
use Rattle.lost_spec.specs.Validation.{names_it}
use Rattle.lost_civic.specs.declared.elements.Element.{Element}
use Rattle.lost_civic.specs.Element.{element_name}
use Rattle.lost_civicdex.specs.Keys.{keys_of}

-- a pattern names an element
abbrev pub names_element : Pairs → Element → Bool
names_element pattern element = names_it (element_name element) pattern

-- the cover of a pattern: the elements that it names, in the order of the table (own)
abbrev pub named_cover : Pairs → List Element
named_cover pattern = map (λ key. key.0) (keys_of pattern)

-- what is looked up: the element alone (own)
abbrev pub element_probes : Element → List Element
element_probes element = element ∷ []
