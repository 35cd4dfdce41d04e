-- The keys of the elements up to a place of a list, and the last of them.
use Rattle.std.proofs.Common.{◌≡◌, ℕ, ◌+◌, ◌-◌, ◌<◌, List, [], ◌∷◌, ◌++◌, length, take, get_or, filter_map, slice_get, option_map, Some, None, sym, ◌∙◌, ap, arith}
use Rattle.std.specs.List.{cons_option}
use Rattle.std.proofs.lemmas.List.{take_more, length-append, get_or_push, append-nil}
use Rattle.std.proofs.lemmas.List.Elements.{filter_map-append}
use Rattle.std.proofs.lemmas.Option.{slice_get_read}
use Rattle.lost_spec.specs.Text.{Text}
use Rattle.lost_spec.specs.Civic.{Pairs}
use Rattle.lost_civic.specs.declared.elements.Element.{Element}
use Rattle.lost_civic.specs.declared.elements.Element.TheVariants.{Country}
use Rattle.lost_civic.specs.Texts.{text_of}
use Rattle.lost_civicdex.specs.Keys.{Key, key_of, last_of}

-- the keys of the elements before a place
abbrev pub keys_before : Pairs → List Element → ℕ → List Key
keys_before pairs elements i = filter_map (key_of pairs) (take i elements)

-- the keys up to a place and the one at it
keys_more : (pairs : Pairs) (elements : List Element) (i : ℕ) → i < length elements → keys_before pairs elements (i + 1) ≡ keys_before pairs elements i ++ cons_option (key_of pairs (get_or elements i Country)) []
keys_more pairs elements i within =
    ap (filter_map (key_of pairs)) (take_more elements i Country within) ∙ filter_map-append (key_of pairs) (take i elements) (get_or elements i Country ∷ [])

-- an element that stands there adds its key
pub keys_grown : (pairs : Pairs) (elements : List Element) (i : ℕ) (text : Text) → i < length elements → Some text ≡ text_of (get_or elements i Country) pairs → keys_before pairs elements (i + 1) ≡ keys_before pairs elements i ++ (get_or elements i Country, text) ∷ []
keys_grown pairs elements i text within h =
    let element = get_or elements i Country in
    let with_element : Text → Key = λ own. (element, own) in
    keys_more pairs elements i within ∙ ap (λ own. keys_before pairs elements i ++ cons_option (option_map with_element own) []) (sym h)

-- so where its key is pushed onto the keys before, they are the keys up to it
pub keys_pushed : (pairs : Pairs) (elements : List Element) (i : ℕ) (text : Text) (made : Key) (before after : List Key) → i < length elements → Some text ≡ text_of (get_or elements i Country) pairs → made ≡ (get_or elements i Country, text) → before ≡ keys_before pairs elements i → after ≡ before ++ made ∷ [] → after ≡ keys_before pairs elements (i + 1)
keys_pushed pairs elements i text made before after within h is kept pushed =
    pushed ∙ (ap (λ keys. keys ++ made ∷ []) kept ∙ (ap (λ key. keys_before pairs elements i ++ key ∷ []) is ∙ sym (keys_grown pairs elements i text within h)))

-- an element that doesn't adds none
pub keys_kept : (pairs : Pairs) (elements : List Element) (i : ℕ) → i < length elements → None ≡ text_of (get_or elements i Country) pairs → keys_before pairs elements (i + 1) ≡ keys_before pairs elements i
keys_kept pairs elements i within h =
    let element = get_or elements i Country in
    let with_element : Text → Key = λ own. (element, own) in
    keys_more pairs elements i within ∙ (ap (λ own. keys_before pairs elements i ++ cons_option (option_map with_element own) []) (sym h) ∙ append-nil (keys_before pairs elements i))

-- the last of a list that ends with y
last_of-push : {X : Type 0} (xs : List X) (y : X) → last_of (xs ++ y ∷ []) ≡ Some y
last_of-push xs y =
    let long : length (xs ++ y ∷ []) ≡ length xs + 1 = length-append xs (y ∷ []) in
    let place : length xs ≡ length xs + 1 - 1 = omega arith in
    ap (λ n. slice_get (xs ++ y ∷ []) (n - 1)) long ∙ slice_get_read (xs ++ y ∷ []) (length xs + 1) (length xs + 1 - 1) y (sym long) (omega arith) (sym (get_or_push xs y y (length xs + 1 - 1) place))

-- so the last key is that of the last element that stands there
pub last_grown : (pairs : Pairs) (elements : List Element) (i : ℕ) (text : Text) → i < length elements → Some text ≡ text_of (get_or elements i Country) pairs → Some (get_or elements i Country, text) ≡ last_of (keys_before pairs elements (i + 1))
last_grown pairs elements i text within h =
    let key : Key = (get_or elements i Country, text) in
    sym (ap last_of (keys_grown pairs elements i text within h) ∙ last_of-push (keys_before pairs elements i) key)

pub last_kept : (pairs : Pairs) (elements : List Element) (i : ℕ) → i < length elements → None ≡ text_of (get_or elements i Country) pairs → last_of (keys_before pairs elements i) ≡ last_of (keys_before pairs elements (i + 1))
last_kept pairs elements i within h = sym (ap last_of (keys_kept pairs elements i within h))
