-- Civic addresses and patterns, as pairs of a name and a value, and when a pattern matches an address.
use Rattle.std.specs.Prelude.{ℕ, Bool, false, not, ◌||◌, List, [], ◌∷◌, map, length, Option, Some, None, option_map, nat_lt, ◌==◌, filter, find, codes}
use Rattle.std.specs.List.{list_all, list_any, slice_split, join_with_byte}
use Rattle.lost_spec.specs.declared.faults.CivicError.{CivicError}
use Rattle.lost_spec.specs.declared.faults.CivicError.TheVariants.{NoKnownElement, Repeated, TooLong, UnknownElement}
use Rattle.lost_spec.specs.Text.{Text, same_text, lowered, is_among, has_repeat, is_between, first_fault}

-- names with their values, as an address or a pattern gives them
abbrev pub Pairs : Type 0
Pairs = List (Text × Text)

abbrev pub names_of : Pairs → List Text
names_of pairs = map (λ pair. pair.0) pairs

-- the names of the civic elements (RFC 4119, section 2.2.1, and RFC 5139, section 3.1), in an order of our own
abbrev pub element_names : List Text
element_names =
    codes "country" ∷ codes "A1" ∷ codes "A2" ∷ codes "A3" ∷ codes "A4" ∷ codes "A5" ∷ codes "A6"
    ∷ codes "PRM" ∷ codes "PRD" ∷ codes "RD" ∷ codes "STS" ∷ codes "POD" ∷ codes "POM" ∷ codes "RDSEC" ∷ codes "RDBR" ∷ codes "RDSUBBR"
    ∷ codes "HNO" ∷ codes "HNS" ∷ codes "LMK" ∷ codes "LOC" ∷ codes "FLR"
    ∷ codes "NAM" ∷ codes "PC" ∷ codes "BLD" ∷ codes "UNIT" ∷ codes "ROOM" ∷ codes "SEAT" ∷ codes "PLC" ∷ codes "PCN" ∷ codes "POBOX" ∷ codes "ADDCODE" ∷ []

-- the name is that of a civic element, in exact case
abbrev pub is_known : Text → Bool
is_known name = is_among name element_names

-- ---- refusals

-- over 128 pairs, or a name or a value of over 512 bytes (own)
abbrev pub is_too_long : Pairs → Bool
is_too_long pairs = nat_lt 128 (length pairs) || list_any (λ pair. nat_lt 512 (length pair.0) || nat_lt 512 (length pair.1)) pairs

-- the first refusal of an address: an element of no kind known is accepted beside one that is (own)
abbrev pub address_fault : Pairs → Option CivicError
address_fault pairs =
    first_fault (
    (is_too_long pairs, TooLong)
    ∷ (has_repeat (names_of pairs), Repeated)
    ∷ (not (list_any is_known (names_of pairs)), NoKnownElement) ∷ [])

-- the first refusal of a pattern: each of its names is known (own)
abbrev pub pattern_fault : Pairs → Option CivicError
pattern_fault pairs =
    first_fault (
    (is_too_long pairs, TooLong)
    ∷ (has_repeat (names_of pairs), Repeated)
    ∷ (not (list_all is_known (names_of pairs)), UnknownElement)
    ∷ (not (list_any is_known (names_of pairs)), NoKnownElement) ∷ [])

-- ---- comparison

-- white space: the bytes 9 to 13, and 32 (own)
abbrev pub is_white : ℕ → Bool
is_white b = is_between 9 13 b || (b == 32)

-- the pieces of a text between bytes of white space, without the empty ones
abbrev pub words : Text → List Text
words text = filter (λ word. nat_lt 0 (length word)) (slice_split is_white text)

-- the comparison text of a value: each run of white space is one space, both ends are trimmed, ASCII letters are lowered (own)
abbrev pub comparison_text : Text → Text
comparison_text value = join_with_byte 32 (words (lowered value))

-- the value of a name in an address or a pattern
abbrev pub value_of : Text → Pairs → Option Text
value_of name pairs = option_map (λ pair. pair.1) (find (λ pair. same_text name pair.0) pairs)

-- there is a value, and its comparison text is this one
abbrev pub compares_to : Option Text → Text → Bool
compares_to None text = false
compares_to (Some value) text = same_text (comparison_text value) text

-- the name stands in the address with this comparison text
abbrev pub has_value : Pairs → Text → Text → Bool
has_value address name text = compares_to (value_of name address) text

-- a pattern matches an address: each of its names stands there with an equal comparison text (RFC 5222, section 12.3; comparison own)
abbrev pub matches : Pairs → Pairs → Bool
matches pattern address = list_all (λ pair. has_value address pair.0 (comparison_text pair.1)) pattern
