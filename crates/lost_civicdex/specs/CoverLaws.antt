-- The laws of covers and probes.
use Rattle.std.proofs.Common.{◌≡◌, ◌-◌, ◌<◌, true, List, [], length, get_or, option_map, option_to_list, Option, Some, None, IsSome, IfSome, IsTrue, Contains, refl, sym, subst, ap, ◌∙◌, arith, map}
use Rattle.std.proofs.lemmas.Bool.{false≢true}
use Rattle.std.proofs.lemmas.Slice.Eq.{bytes_eq-Decides}
use Rattle.std.proofs.lemmas.List.{length-map}
use Rattle.std.proofs.Math.ListN.{get_or-map}
use Rattle.std.proofs.lemmas.List.Sums.{AllPass-from_list_all}
use Rattle.lost_spec.specs.Text.{Text}
use Rattle.lost_spec.specs.Civic.{Pairs, value_of, comparison_text, compares_to, has_value, matches}
use Rattle.lost_civic.specs.declared.elements.Element.TheVariants.{Country}
use Rattle.lost_civic.specs.Element.{element_name}
use Rattle.lost_civic.specs.Texts.{text_of, HasElement}
use Rattle.lost_civic.proofs.Present.{text-from_compares_to, shared_text, HasElement-pattern}
use Rattle.lost_profile.specs.Keys.{SharesKey}
use Rattle.lost_civicdex.specs.Keys.{Key, keys_of, last_of, last_key}
use Rattle.lost_civicdex.specs.Covers.{civic_cover, IsPattern, names_all, required_probes, IsRequirement}
use Rattle.lost_civicdex.specs.KeyPresence.{key_stands, stands_from_key, has_last}

-- a found thing is in the list of what was found
in_found : {X : Type 0} (found : Option X) (x : X) → found ≡ Some x → Contains (option_to_list found) x
in_found found x is = subst (λ own. Contains (option_to_list own) x) (sym is) (0, omega arith, refl)

-- what is made of a thing in a list is in the list of what is made of each
pub in_map : {X Y : Type 0} (made : X → Y) (xs : List X) (x : X) → Contains xs x → Contains (map made xs) (made x)
in_map made xs x h = (h.0, omega (arith, length-map xs made, h.1), get_or-map made xs h.0 x ∙ ap made h.2)

pub text_from_IsSome : (found : Option Text) → IsSome found → (text : Text) × (found ≡ Some text)
text_from_IsSome None h = absurd (false≢true h)
text_from_IsSome (Some text) h = (text, refl)

-- where an element stands there, some key does
pub some_key : (pairs : Pairs) → HasElement pairs → 0 < length (keys_of pairs)
some_key pairs has =
    let text = text_from_IsSome (text_of has.0 pairs) has.1 in
    let stands = key_stands pairs has.0 text.0 text.1 in
    let within = stands.1 in
    omega arith

-- ---- addresses

shared_at : (own : Option Text) (other : Option Text) (text : Text) → own ≡ Some text → IfSome own (λ wanted. other ≡ Some wanted) → other ≡ Some text
shared_at own other text is h = subst (λ found. IfSome found (λ wanted. other ≡ Some wanted)) is h

-- where a pattern matches an address, the key of its last element is one of the address's
pub civic_shares : (pattern address : Pairs) → IsPattern pattern → IsTrue (matches pattern address) → SharesKey (civic_cover pattern) (keys_of address)
civic_shares pattern address lawful holds =
    let keys = keys_of pattern in
    let last = get_or keys (length keys - 1) (Country, []) in
    let found = has_last keys (Country, []) (some_key pattern (HasElement-pattern pattern lawful)) in
    let own = stands_from_key pattern last found.1 in
    let others = shared_at (text_of last.0 pattern) (text_of last.0 address) last.1 own (shared_text pattern address last.0 holds) in
    record { key = last; in_left = in_found (last_key pattern) last found.0; in_right = key_stands address last.0 last.1 others }

-- ---- required elements

-- where a pattern names each required element, the last of them is one of its keys
pub required_shares : (pattern : Pairs) (required : List Key) → IsRequirement required → IsTrue (names_all pattern required) → SharesKey (keys_of pattern) (required_probes required)
required_shares pattern required some holds =
    let last = get_or required (length required - 1) (Country, []) in
    let found = has_last required (Country, []) some in
    let named : has_value pattern (element_name last.0) last.1 ≡ true = AllPass-from_list_all (λ key. has_value pattern (element_name key.0) key.1) required holds (length required - 1) (Country, []) (omega arith) in
    record { key = last; in_left = key_stands pattern last.0 last.1 (text-from_compares_to (value_of (element_name last.0) pattern) last.1 named); in_right = in_found (last_of required) last found.0 }
