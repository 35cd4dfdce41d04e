-- The laws of outlines.
use Rattle.std.proofs.Common.{◌≡◌, ◌==◌, true, List, [], ◌∷◌, IsTrue, ap}
use Rattle.std.specs.Cmp.{first_so, second_so}
use Rattle.std.proofs.lemmas.Bool.Decides.{Decides-eqb}
use Rattle.lost_spec.specs.Civic.{Pairs, value_of, has_value, matches}
use Rattle.lost_civic.specs.declared.signatures.Signature.{Signature}
use Rattle.lost_civic.specs.Element.{element_name}
use Rattle.lost_civic.specs.Signatures.{signature_of, signature_of_keys, are_among}
use Rattle.lost_civic.proofs.Present.{text-from_compares_to}
use Rattle.lost_civic.proofs.SignatureLemmas.{signatures_meet, AllStand, keys_meet}
use Rattle.lost_civicdex.specs.Keys.{Key}
use Rattle.lost_civicdex.specs.Covers.{signature, may_match, names_all, may_name}

-- where a pattern matches an address, its outline says that it may
pub match_is_near : (pattern address : Pairs) → IsTrue (matches pattern address) → IsTrue (may_match (signature pattern) address)
match_is_near pattern address holds = signatures_meet pattern address holds

-- each of the required elements that a pattern names stands in it with its text
all_named : (pattern : Pairs) (required : List Key) → IsTrue (names_all pattern required) → AllStand pattern required
all_named pattern [] holds = tt
all_named pattern (key ∷ rest) holds =
    let here = has_value pattern (element_name key.0) key.1 in
    (text-from_compares_to (value_of (element_name key.0) pattern) key.1 (first_so here (names_all pattern rest) holds), all_named pattern rest (second_so here (names_all pattern rest) holds))

-- where a pattern names each required element, its outline says that it may
pub named_is_near : (pattern : Pairs) (required : List Key) → IsTrue (names_all pattern required) → IsTrue (may_name (signature pattern) required)
named_is_near pattern required holds = keys_meet pattern required (all_named pattern required holds)

-- equal outlines say the same of each address
pub equal_signatures_agree : (outline other : Signature) (address : Pairs) → (outline.bits == other.bits) ≡ true → may_match outline address ≡ may_match other address
equal_signatures_agree outline other address same =
    ap (λ bits. are_among bits (signature_of address)) ((Decides-eqb outline.bits other.bits).0 same)

pub equal_signatures_agree_on_keys : (outline other : Signature) (required : List Key) → (outline.bits == other.bits) ≡ true → may_name outline required ≡ may_name other required
equal_signatures_agree_on_keys outline other required same =
    ap (λ bits. are_among (signature_of_keys required) bits) ((Decides-eqb outline.bits other.bits).0 same)
