-- A key is among those of an address or a pattern exactly where its element stands there with its text.
use Rattle.std.proofs.Common.{◌≡◌, ◌+◌, ◌-◌, ◌<◌, List, [], ◌∷◌, ◌++◌, length, take, drop, get_or, filter_map, option_map, Option, Some, None, Contains, refl, sym, subst, ◌∙◌, ap, arith}
use Rattle.std.specs.List.{cons_option, AllByRecursion}
use Rattle.std.proofs.lemmas.List.{take-append-drop}
use Rattle.std.proofs.lemmas.List.Elements.{filter_map-append, Contains-append_left, Contains-push, Contains-get_or, All-from_recursion, All-contains}
use Rattle.std.proofs.lemmas.Option.{slice_get-get_or}
use Rattle.lost_spec.specs.Text.{Text}
use Rattle.lost_spec.specs.Civic.{Pairs}
use Rattle.lost_civic.specs.declared.elements.Element.{Element}
use Rattle.lost_civic.specs.declared.elements.Element.TheVariants.{Country}
use Rattle.lost_civic.specs.Element.{element_index, all_elements}
use Rattle.lost_civic.specs.Texts.{text_of}
use Rattle.lost_civic.proofs.ElementLemmas.{all_elements-element_index}
use Rattle.lost_civicdex.specs.Keys.{Key, key_of, keys_of, last_of}
use Rattle.lost_civicdex.specs.KeyLemmas.{keys_before, keys_grown}

-- each element has a place in the table
index_within : (element : Element) → element_index element < 31
index_within Country = omega arith
index_within other = omega arith

-- an element that stands there has its key among the keys
pub key_stands : (pairs : Pairs) (element : Element) (text : Text) → text_of element pairs ≡ Some text → Contains (keys_of pairs) (element, text)
key_stands pairs element text h =
    let i = element_index element in
    let here : get_or all_elements i Country ≡ element = all_elements-element_index element Country in
    let before = keys_before pairs all_elements i in
    let rest = filter_map (key_of pairs) (drop (i + 1) all_elements) in
    let grown : keys_before pairs all_elements (i + 1) ≡ before ++ (element, text) ∷ [] = keys_grown pairs all_elements i text (index_within element) (sym h ∙ ap (λ other. text_of other pairs) (sym here)) ∙ ap (λ other. before ++ (other, text) ∷ []) here in
    let whole : (before ++ (element, text) ∷ []) ++ rest ≡ keys_of pairs = ap (λ keys. keys ++ rest) (sym grown) ∙ (sym (filter_map-append (key_of pairs) (take (i + 1) all_elements) (drop (i + 1) all_elements)) ∙ ap (filter_map (key_of pairs)) (take-append-drop (i + 1) all_elements)) in
    subst (λ keys. Contains keys (element, text)) whole (Contains-append_left (before ++ (element, text) ∷ []) rest (element, text) (Contains-push before (element, text)))

-- the key is one of the element, with its text
abbrev pub StandsIn : Pairs → Key → Type 0
StandsIn pairs key = text_of key.0 pairs ≡ Some key.1

stands_by : (pairs : Pairs) (element : Element) (found : Option Text) (keys : List Key) → text_of element pairs ≡ found → AllByRecursion (StandsIn pairs) keys → AllByRecursion (StandsIn pairs) (cons_option (option_map (λ text. (element, text)) found) keys)
stands_by pairs element None keys is h = h
stands_by pairs element (Some text) keys is h = (is, h)

all_stand : (pairs : Pairs) (elements : List Element) → AllByRecursion (StandsIn pairs) (filter_map (key_of pairs) elements)
all_stand pairs [] = tt
all_stand pairs (element ∷ rest) =
    stands_by pairs element (text_of element pairs) (filter_map (key_of pairs) rest) refl (all_stand pairs rest)

-- of each key among the keys, the element stands there with its text
pub stands_from_key : (pairs : Pairs) (key : Key) → Contains (keys_of pairs) key → text_of key.0 pairs ≡ Some key.1
stands_from_key pairs key h =
    All-contains (StandsIn pairs) (keys_of pairs) key (All-from_recursion (StandsIn pairs) (keys_of pairs) (all_stand pairs all_elements)) h

-- a list with something in it has a last thing, which is in it
pub has_last : {X : Type 0} (xs : List X) (d : X) → 0 < length xs → (last_of xs ≡ Some (get_or xs (length xs - 1) d)) × Contains xs (get_or xs (length xs - 1) d)
has_last xs d long =
    (slice_get-get_or xs (length xs - 1) d (omega arith), Contains-get_or xs (length xs - 1) d (omega arith))
