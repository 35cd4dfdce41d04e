-- Required elements of an address name the same patterns as the definition of a validation.
use Rattle.std.specs.Prelude.{◌≡◌, List, map, filter_map, is_some, true}
use Rattle.std.specs.List.{list_all}
use Rattle.lost_spec.specs.Civic.{Pairs}
use Rattle.lost_spec.specs.Validation.{agrees}
use Rattle.lost_civic.specs.declared.elements.Element.{Element}
use Rattle.lost_civic.specs.Element.{element_name}
use Rattle.lost_civic.specs.Texts.{text_of}
use Rattle.lost_civicdex.specs.Keys.{key_of}
use Rattle.lost_civicdex.specs.Covers.{names_all}

-- for elements that stand in an address: a pattern names their keys exactly where it names each of them with the address's comparison text (RFC 5222, section 8.4.2; policy own)
abbrev pub RequiredAgree : Type 0
RequiredAgree = (address pattern : Pairs) (elements : List Element)
    → list_all (λ element. is_some (text_of element address)) elements ≡ true
    → names_all pattern (filter_map (key_of address) elements) ≡ list_all (λ name. agrees address name pattern) (map element_name elements)
