-- Validation of a civic address: which of its elements are valid, invalid and unchecked.
use Rattle.std.specs.Prelude.{Bool, false, not, ◌&&◌, List, ◌++◌, Option, Some, None, option_map, filter, flat_map}
use Rattle.std.specs.List.{list_all, list_any}
use Rattle.lost_spec.specs.Text.{Text, same_text, is_among, ascending_by}
use Rattle.lost_spec.specs.Service.{Service}
use Rattle.lost_spec.specs.Civic.{Pairs, names_of, element_names, is_known, value_of, comparison_text, matches}
use Rattle.lost_spec.specs.Moment.{Instant}
use Rattle.lost_spec.specs.Mapping.{Mapping}
use Rattle.lost_spec.specs.Book.{Book}
use Rattle.lost_spec.specs.Find.{serves}

-- names of an address's elements (RFC 5222, section 8.4.2)
pub record Validation : Type 0 where
  pub invalid : List Text
  pub unchecked : List Text
  pub valid : List Text

-- ---- names in their order

abbrev pub unknown_names : Pairs → List Text
unknown_names address = filter (λ name. not (is_known name)) (names_of address)

-- the known names of an address in the order of the elements, and then its other names by bytes, each once (own order)
abbrev pub ordered_names : Pairs → List Text
ordered_names address = filter (λ name. is_among name (names_of address)) element_names ++ ascending_by (λ name. name) (unknown_names address)

-- ---- patterns

abbrev pub patterns_in : List Mapping → List Pairs
patterns_in ms = flat_map (λ m. m.regions.patterns) ms

-- the live mappings of service u, defaults too, in list order
abbrev pub of_service : Book → Instant → Service → List Mapping
of_service b t u = filter (λ m. serves m t u) b.mappings

-- the comparison text of a name's value
abbrev pub compared : Text → Pairs → Option Text
compared name pairs = option_map comparison_text (value_of name pairs)

-- two texts are there, and are the same
abbrev pub same_some : Option Text → Option Text → Bool
same_some None o = false
same_some (Some text) None = false
same_some (Some text) (Some other) = same_text text other

-- a pattern names an element with the address's comparison text
abbrev pub agrees : Pairs → Text → Pairs → Bool
agrees address name pattern = same_some (compared name pattern) (compared name address)

-- a pattern names an element
abbrev pub names_it : Text → Pairs → Bool
names_it name pattern = is_among name (names_of pattern)

-- ---- the three kinds

-- a pattern of a found mapping matches the address and names the element (RFC 5222, section 8.4.2; policy own)
abbrev pub is_valid : List Mapping → Pairs → Text → Bool
is_valid found address name = list_any (λ pattern. matches pattern address && names_it name pattern) (patterns_in found)

abbrev pub valid_names : List Mapping → Pairs → List Text
valid_names found address = filter (is_valid found address) (ordered_names address)

-- the reference patterns: those of live mappings of service u that name every valid element with the address's comparison text (own)
abbrev pub reference_patterns : Book → Instant → Service → List Mapping → Pairs → List Pairs
reference_patterns b t u found address =
    filter (λ pattern. list_all (λ name. agrees address name pattern) (valid_names found address)) (patterns_in (of_service b t u))

-- a known element that is not valid, that some reference pattern names, and none with the address's comparison text
abbrev pub is_invalid : List Pairs → List Mapping → Pairs → Text → Bool
is_invalid references found address name =
    is_known name && not (is_valid found address name)
    && list_any (names_it name) references
    && not (list_any (agrees address name) references)

-- the validation of an address, where mappings of service u were found (RFC 5222, section 8.4.2; policy own)
unfoldable pub validation : Book → Instant → Service → List Mapping → Pairs → Validation
validation b t u found address =
    let references = reference_patterns b t u found address in
    record {
      invalid = filter (is_invalid references found address) (ordered_names address);
      unchecked =
          filter (λ name. not (is_valid found address name) && not (is_invalid references found address name)) (ordered_names address);
      valid = valid_names found address;
    }
