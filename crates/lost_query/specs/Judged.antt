-- How the elements of an address are judged, element by element.
use Rattle.std.specs.Prelude.{◌≡◌, Bool, false, not, ◌&&◌, List, [], ◌∷◌, ◌++◌}
use Rattle.std.specs.List.{list_all, list_any}
use Rattle.lost_spec.specs.Civic.{Pairs, names_of, is_known}
use Rattle.lost_spec.specs.Text.{Text, is_among}
use Rattle.lost_spec.specs.Service.{Service}
use Rattle.lost_spec.specs.Moment.{Instant}
use Rattle.lost_spec.specs.Mapping.{Mapping}
use Rattle.lost_spec.specs.Book.{Book}
use Rattle.lost_spec.specs.Find.{serves}
use Rattle.lost_spec.specs.Validation.{agrees, names_it, is_valid}
use Rattle.lost_civic.specs.declared.elements.Element.{Element}
use Rattle.lost_civic.specs.Element.{element_name}

-- the element stands in the address
abbrev pub stands_in : Pairs → Element → Bool
stands_in address element = is_among (element_name element) (names_of address)

-- some pattern names the element
abbrev pub is_named : List Pairs → Element → Bool
is_named patterns element = list_any (names_it (element_name element)) patterns

-- a pattern names each of these elements with the address's comparison text (own policy)
abbrev pub is_reference : List Element → Pairs → Pairs → Bool
is_reference valid address pattern = list_all (λ element. agrees address (element_name element) pattern) valid

-- a mapping is live at t, has service u, and some pattern of it names each of these elements with the address's comparison text (own policy)
abbrev pub is_referring : Instant → Service → Pairs → List Element → Mapping → Bool
is_referring t u address elements m = serves m t u && list_any (is_reference elements address) m.regions.patterns

-- a mapping is live at t, has service u, and some pattern of it names each of these elements with the address's comparison text, and another element with any text (own policy)
abbrev pub is_naming : Instant → Service → Pairs → List Element → Element → Mapping → Bool
is_naming t u address elements named m = serves m t u && list_any (λ p. is_reference elements address p && names_it (element_name named) p) m.regions.patterns

-- some live mapping of service u has a pattern that names each valid element with the address's comparison text, and this element too, but none names each of them and this element so (own policy)
abbrev pub is_contradicted : Book → Instant → Service → Pairs → List Element → Element → Bool
is_contradicted b t u address valid element =
    list_any (is_naming t u address valid element) b.mappings && not (list_any (is_referring t u address (valid ++ element ∷ [])) b.mappings)

-- a pattern of a found mapping matches the address and names the element (RFC 5222, section 8.4.2; policy own)
abbrev pub is_valid_element : List Mapping → Pairs → Element → Bool
is_valid_element found address element = is_valid found address (element_name element)

-- a name that is of no element is not valid
pub record ValidatesNoOther (found : List Mapping) (address : Pairs) : Type 0 where
  pub unknown : (name : Text) → is_known name ≡ false → is_valid found address name ≡ false
