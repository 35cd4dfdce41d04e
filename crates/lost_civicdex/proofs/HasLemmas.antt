-- A key is one of a cover exactly where its element stands in the pattern, and the text has the same hash.
use Rattle.std.proofs.Common.{◌≡◌, ℕ, ◌-◌, ◌≤◌, ◌+◌, ◌<◌, Bool, true, false, ◌&&◌, List, [], ◌∷◌, ◌++◌, length, map, take, drop, get_or, slice_get, filter_map, is_some, Option, Some, None, nat_eq, refl, sym, ap, append_assoc, take_all, ◌∙◌, arith}
use Rattle.std.specs.List.{list_any}
use Rattle.std.specs.Option.{option_map_or}
use Rattle.std.proofs.lemmas.Bool.{false≢true, and_parts}
use Rattle.std.proofs.lemmas.Bool.Decides.{nat_tests}
use Rattle.std.proofs.lemmas.List.{length-map, length-append, take-append-drop, get_or-map, get_or_default}
use Rattle.std.proofs.lemmas.List.Elements.{filter_map-append}
use Rattle.std.proofs.lemmas.List.Folds.{Any-from_list_any, list_any_at}
use Rattle.std.proofs.lemmas.Option.{slice_get_past}
use Rattle.lost_spec.specs.Text.{Text}
use Rattle.lost_spec.specs.Civic.{Pairs}
use Rattle.lost_civic.specs.declared.elements.Element.{Element}
use Rattle.lost_civic.specs.declared.elements.Element.TheVariants.{Country}
use Rattle.lost_civic.specs.Element.{element_index, all_elements}
use Rattle.lost_civic.specs.Texts.{text_of}
use Rattle.lost_civic.proofs.ElementLemmas.{all_elements-element_index}
use Rattle.lost_civicdex.specs.declared.hashed_key.HashedKey.{HashedKey}
use Rattle.lost_civicdex.specs.Keys.{Key, key_of, keys_of}
use Rattle.lost_civicdex.specs.KeyLemmas.{keys_before, keys_grown, keys_kept}
use Rattle.lost_civicdex.specs.KeyPresence.{key_stands, stands_from_key}
use Rattle.lost_civicdex.specs.CoverLaws.{in_map}
use Rattle.lost_civicdex.specs.HashedKeys.{hashed, hashed_keys}
use Rattle.lost_civicdex.specs.NamedElements.{named_cover}

-- ---- the key at a position

-- the one behind some
seam : {X : Type 0} (xs : List X) (y : X) (ys : List X) → slice_get (xs ++ y ∷ ys) (length xs) ≡ Some y
seam [] y ys = refl
seam (x ∷ xs) y ys = seam xs y ys

at_length : (n left position : ℕ) → n + left ≡ position → left ≡ 0 → n ≡ position
at_length n left position h none = omega arith

-- where none is to be passed over any more, the element's key is the one
pub nth_here : (pairs : Pairs) (elements : List Element) (i left position : ℕ) (text : Text) → i < length elements → Some text ≡ text_of (get_or elements i Country) pairs
    → length (keys_before pairs elements i) + left ≡ position → left ≡ 0 → Some (get_or elements i Country, text) ≡ slice_get (filter_map (key_of pairs) elements) position
nth_here pairs elements i left position text within h passed none =
    let key : Key = (get_or elements i Country, text) in
    let before = keys_before pairs elements i in
    let rest = filter_map (key_of pairs) (drop (i + 1) elements) in
    let whole : before ++ key ∷ rest ≡ filter_map (key_of pairs) elements =
    sym (append_assoc before (key ∷ []) rest) ∙ ap (λ keys. keys ++ rest) (sym (keys_grown pairs elements i text within h))
    ∙ sym (filter_map-append (key_of pairs) (take (i + 1) elements) (drop (i + 1) elements)) ∙ ap (filter_map (key_of pairs)) (take-append-drop (i + 1) elements) in
    sym (seam before key rest) ∙ ap (λ keys. slice_get keys (length before)) whole
    ∙ ap (slice_get (filter_map (key_of pairs) elements)) (at_length (length before) left position passed none)

one_less : (n m left position : ℕ) → n + left ≡ position → m ≡ n + 1 → (left ≡ 0 → ⊥) → m + (left - 1) ≡ position
one_less n m left position h more some = omega arith

-- else it is passed over
pub nth_passed : (pairs : Pairs) (elements : List Element) (i left position : ℕ) (text : Text) → i < length elements → Some text ≡ text_of (get_or elements i Country) pairs
    → length (keys_before pairs elements i) + left ≡ position → (left ≡ 0 → ⊥) → length (keys_before pairs elements (i + 1)) + (left - 1) ≡ position
nth_passed pairs elements i left position text within h passed some =
    let before = keys_before pairs elements i in
    one_less (length before) (length (keys_before pairs elements (i + 1))) left position passed
    (ap length (keys_grown pairs elements i text within h) ∙ length-append before ((get_or elements i Country, text) ∷ [])) some

-- an element that doesn't stand there is no key
pub nth_kept : (pairs : Pairs) (elements : List Element) (i left position : ℕ) → i < length elements → None ≡ text_of (get_or elements i Country) pairs
    → length (keys_before pairs elements i) + left ≡ position → length (keys_before pairs elements (i + 1)) + left ≡ position
nth_kept pairs elements i left position within h passed =
    ap (λ keys. length keys + left) (keys_kept pairs elements i within h) ∙ passed

-- behind the last element there is none
pub nth_none : (pairs : Pairs) (elements : List Element) (i left position : ℕ) → length elements ≤ i → length (keys_before pairs elements i) + left ≡ position
    → None ≡ slice_get (filter_map (key_of pairs) elements) position
nth_none pairs elements i left position past passed =
    let all : length (keys_before pairs elements i) ≡ length (filter_map (key_of pairs) elements) = ap (λ es. length (filter_map (key_of pairs) es)) (take_all i elements past) in
    sym (slice_get_past (filter_map (key_of pairs) elements) position (omega arith))

-- ---- tests of elements

both_ways : (a b : Bool) → (a ≡ true → b ≡ true) → (b ≡ true → a ≡ true) → a ≡ b
both_ways true b to from = sym (to refl)
both_ways false true to from = from refl
both_ways false false to from = refl

same_number : (n k : ℕ) → nat_eq n k ≡ true → n ≡ k
same_number n k same = search (arith, nat_tests)

number_itself : (n : ℕ) → nat_eq n n ≡ true
number_itself n = grind (arith, nat_tests)

-- elements of one place are the same
from_index : (a b : Element) → nat_eq (element_index a) (element_index b) ≡ true → a ≡ b
from_index a b same =
    sym (all_elements-element_index a Country) ∙ ap (λ i. get_or all_elements i Country) (same_number (element_index a) (element_index b) same)
    ∙ all_elements-element_index b Country

index_within : (element : Element) → element_index element < length all_elements
index_within Country = omega arith
index_within other = omega arith

-- what a test says of each two elements of the table
abbrev table : (Element → Element → Bool) → List (List Bool)
table test = map (λ a. map (test a) all_elements) all_elements

reads : (test : Element → Element → Bool) (a b : Element) → get_or (get_or (table test) (element_index a) []) (element_index b) false ≡ test a b
reads test a b =
    ap (λ row. get_or row (element_index b) false) (get_or-map (λ e. map (test e) all_elements) all_elements (element_index a) Country [] (index_within a))
    ∙ ap (λ e. get_or (map (test e) all_elements) (element_index b) false) (all_elements-element_index a Country)
    ∙ get_or-map (test a) all_elements (element_index b) Country false (index_within b) ∙ ap (test a) (all_elements-element_index b Country)

-- tests that say the same of each two of the table are the same
alike : (one other : Element → Element → Bool) → table one ≡ table other → (a b : Element) → one a b ≡ other a b
alike one other same a b =
    sym (reads one a b) ∙ ap (λ rows. get_or (get_or rows (element_index a) []) (element_index b) false) same ∙ reads other a b

-- ---- elements that a pattern names

abbrev by_index : Element → Element → Bool
by_index a b = nat_eq (element_index a) (element_index b)

-- the test of equality is that of the places in the table
abbrev pub TestsPlaces : (Element → Element → Bool) → Type 0
TestsPlaces same = map (λ a. map (same a) all_elements) all_elements ≡ map (λ a. map (λ b. nat_eq (element_index a) (element_index b)) all_elements) all_elements

some_text : (found : Option Text) → is_some found ≡ true → (text : Text) × (found ≡ Some text)
some_text None h = absurd (false≢true h)
some_text (Some text) h = (text, refl)

-- an element is one of the cover exactly where it stands in the pattern
pub named-has : (same : Element → Element → Bool) → TestsPlaces same → (pattern : Pairs) (element : Element)
    → is_some (text_of element pattern) ≡ list_any (same element) (named_cover pattern)
named-has same tests pattern element =
    both_ways (is_some (text_of element pattern)) (list_any (same element) (named_cover pattern))
    (λ some.
    let text = some_text (text_of element pattern) some in
    let stands = in_map (λ key. key.0) (keys_of pattern) (element, text.0) (key_stands pattern element text.0 text.1) in
    list_any_at (same element) (named_cover pattern) stands.0 element stands.1
    (ap (same element) stands.2 ∙ alike same by_index tests element element ∙ number_itself (element_index element)))
    (λ found.
    let any = Any-from_list_any (same element) (named_cover pattern) found in
    let key = get_or (keys_of pattern) any.0 (element, []) in
    let within : any.0 < length (keys_of pattern) = omega (arith, length-map (keys_of pattern) (λ k. k.0), any.2) in
    let is : any.1 ≡ key.0 = sym any.3 ∙ get_or-map (λ k. k.0) (keys_of pattern) any.0 (element, []) any.1 within in
    let own : element ≡ key.0 = from_index element any.1 (sym (alike same by_index tests element any.1) ∙ any.4) ∙ is in
    ap is_some (ap (λ e. text_of e pattern) own ∙ stands_from_key pattern key (any.0, within, get_or_default (keys_of pattern) any.0 key (element, []) within)))

-- ---- hashed keys

-- the test of equality is that of the elements' places and the hashes
abbrev pub TestsHashes : (HashedKey → HashedKey → Bool) → Type 0
TestsHashes same = (hash other : ℕ) → map (λ a. map (λ b. same (record { element = a; hash = hash }) (record { element = b; hash = other })) all_elements) all_elements
    ≡ map (λ a. map (λ b. nat_eq (element_index a) (element_index b) && nat_eq hash other) all_elements) all_elements

of_one_element : (same : HashedKey → HashedKey → Bool) → TestsHashes same → (key other : HashedKey) → same key other ≡ true → key.element ≡ other.element
of_one_element same tests key other equal =
    let one : Element → Element → Bool = λ a b. same (record { element = a; hash = key.hash }) (record { element = b; hash = other.hash }) in
    let both : Element → Element → Bool = λ a b. nat_eq (element_index a) (element_index b) && nat_eq key.hash other.hash in
    from_index key.element other.element
    (and_parts (by_index key.element other.element) (nat_eq key.hash other.hash) (sym (alike one both (tests key.hash other.hash) key.element other.element) ∙ equal)).0

some_has : (test : Text → Bool) (found : Option Text) → option_map_or test found false ≡ true → (text : Text) × (found ≡ Some text) × (test text ≡ true)
some_has test None h = absurd (false≢true h)
some_has test (Some text) h = (text, refl, h)

-- a key is one of the cover exactly where its element stands in the pattern, and makes an equal key
pub hashed-has : (same : HashedKey → HashedKey → Bool) → TestsHashes same → (pattern : Pairs) (key : HashedKey) (found : Option Text) → found ≡ text_of key.element pattern
    → option_map_or (λ text. same key (hashed (key.element, text))) found false ≡ list_any (same key) (hashed_keys pattern)
hashed-has same tests pattern key found is =
    let test : Text → Bool = λ text. same key (hashed (key.element, text)) in
    both_ways (option_map_or test found false) (list_any (same key) (hashed_keys pattern))
    (λ some.
    let text = some_has test found some in
    let stands = in_map hashed (keys_of pattern) (key.element, text.0) (key_stands pattern key.element text.0 (sym is ∙ text.1)) in
    list_any_at (same key) (hashed_keys pattern) stands.0 (hashed (key.element, text.0)) stands.1 (ap (same key) stands.2 ∙ text.2))
    (λ has.
    let any = Any-from_list_any (same key) (hashed_keys pattern) has in
    let own = get_or (keys_of pattern) any.0 (key.element, []) in
    let within : any.0 < length (keys_of pattern) = omega (arith, length-map (keys_of pattern) hashed, any.2) in
    let made : any.1 ≡ hashed own = sym any.3 ∙ get_or-map hashed (keys_of pattern) any.0 (key.element, []) any.1 within in
    let equal : same key (hashed own) ≡ true = ap (same key) (sym made) ∙ any.4 in
    let element : key.element ≡ own.0 = of_one_element same tests key (hashed own) equal in
    let text : found ≡ Some own.1 = is ∙ ap (λ e. text_of e pattern) element ∙ stands_from_key pattern own (any.0, within, get_or_default (keys_of pattern) any.0 own (key.element, []) within) in
    ap (λ o. option_map_or test o false) text ∙ ap (λ e. same key (hashed (e, own.1))) element ∙ equal)
