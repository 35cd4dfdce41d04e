-- The keys that a pattern is kept under, and those that are looked up: for an address, and for required elements. An
-- index holds them hashed (HashedKeys.antt).
use Rattle.std.specs.Prelude.{Bool, List, option_to_list, ◌≡◌, ◌<◌, None, length}
use Rattle.std.specs.List.{list_all}
use Rattle.lost_spec.specs.Civic.{Pairs, pattern_fault, address_fault, has_value}
use Rattle.lost_civic.specs.declared.signatures.Signature.{Signature}
use Rattle.lost_civic.specs.Element.{element_name}
use Rattle.lost_civic.specs.Signatures.{signature_of, signature_of_keys, are_among}
use Rattle.lost_civicdex.specs.Keys.{Key, last_of, last_key}

-- ---- addresses

-- the cover of a pattern: the key of its last element alone (own)
abbrev pub civic_cover : Pairs → List Key
civic_cover pattern = option_to_list (last_key pattern)

abbrev pub IsPattern : Pairs → Type 0
IsPattern pairs = pattern_fault pairs ≡ None

abbrev pub IsAddress : Pairs → Type 0
IsAddress pairs = address_fault pairs ≡ None

-- the outline of a pattern: its signature (own)
abbrev pub signature : Pairs → Signature
signature pattern = record { bits = signature_of pattern }

-- a pattern with this outline may match an address: each bit of the outline is one of the address's signature (own)
abbrev pub may_match : Signature → Pairs → Bool
may_match outline address = are_among outline.bits (signature_of address)

-- ---- required elements

-- a pattern names each required element with its comparison text (own)
abbrev pub names_all : Pairs → List Key → Bool
names_all pattern required = list_all (λ key. has_value pattern (element_name key.0) key.1) required

-- what is looked up: the last required element alone (own)
abbrev pub required_probes : List Key → List Key
required_probes required = option_to_list (last_of required)

-- at least one element is required
abbrev pub IsRequirement : List Key → Type 0
IsRequirement required = 0 < length required

-- a pattern with this outline may name each required element: each of their bits is one of the outline's (own)
abbrev pub may_name : Signature → List Key → Bool
may_name outline required = are_among (signature_of_keys required) outline.bits
