-- Which elements stand in an address or a pattern, and what a match says of them.
use Rattle.std.proofs.Common.{◌≡◌, ◌||◌, not, Bool, true, false, cond, [], ◌∷◌, get_or, find, Option, Some, None, option_map, is_some, IfSome, refl, sym, ◌∙◌, ap}
use Rattle.std.specs.Cmp.{first_so, second_so}
use Rattle.std.specs.List.{list_any, list_all, Any}
use Rattle.std.proofs.lemmas.Bool.{false≢true}
use Rattle.std.proofs.lemmas.List.Folds.{Any-from_list_any, list_any_at}
use Rattle.std.proofs.lemmas.Slice.Eq.{bytes_eq-Decides}
use Rattle.lost_spec.specs.declared.faults.CivicError.TheVariants.{NoKnownElement, Repeated, TooLong, UnknownElement}
use Rattle.lost_spec.specs.Text.{Text, same_text, is_among, has_repeat, first_fault}
use Rattle.lost_spec.specs.Civic.{Pairs, names_of, is_known, is_too_long, address_fault, pattern_fault, value_of, comparison_text, has_value, compares_to, matches}
use Rattle.lost_civic.specs.declared.elements.Element.{Element}
use Rattle.lost_civic.specs.Element.{element_name, all_elements}
use Rattle.lost_civic.specs.Texts.{text_of, HasElement}
use Rattle.lost_civic.proofs.ElementLemmas.{is_known-elements}

-- ---- a match

-- a value that compares to a text has that comparison text
pub text-from_compares_to : (value : Option Text) (text : Text) → compares_to value text ≡ true → option_map comparison_text value ≡ Some text
text-from_compares_to None text h = absurd (false≢true h)
text-from_compares_to (Some value) text h = ap Some ((bytes_eq-Decides (comparison_text value) text).0 h)

-- a match hands on the text of the pair that has the name
shared_by : (test : Bool) (name : Text) (pair : Text × Text) (found : Option (Text × Text)) (address : Pairs) → (test ≡ true → name ≡ pair.0) → has_value address pair.0 (comparison_text pair.1) ≡ true → IfSome (option_map comparison_text (option_map (λ other. other.1) found)) (λ text. option_map comparison_text (value_of name address) ≡ Some text) → IfSome (option_map comparison_text (option_map (λ other. other.1) (cond test (Some pair) found))) (λ text. option_map comparison_text (value_of name address) ≡ Some text)
shared_by true name pair found address is_name has h =
    ap (λ own. option_map comparison_text (value_of own address)) (is_name refl) ∙ text-from_compares_to (value_of pair.0 address) (comparison_text pair.1) has
shared_by false name pair found address is_name has h = h

-- where a pattern matches an address, each text of the pattern is the address's
pub shared_text : (pattern address : Pairs) (element : Element) → matches pattern address ≡ true → IfSome (text_of element pattern) (λ text. text_of element address ≡ Some text)
shared_text [] address element h = tt
shared_text (pair ∷ rest) address element h =
    let name = element_name element in
    let has_name : Text × Text → Bool = λ other. same_text name other.0 in
    let has = has_value address pair.0 (comparison_text pair.1) in
    shared_by (has_name pair) name pair (find has_name rest) address (bytes_eq-Decides name pair.0).0 (first_so has (matches rest address) h) (shared_text rest address element (second_so has (matches rest address) h))

-- ---- some element

-- a known name is that of an element
pub known_element : (name : Text) → is_known name ≡ true → (element : Element) × (name ≡ element_name element)
known_element name h =
    let is_named : Element → Bool = λ element. same_text name (element_name element) in
    let some : Any (λ element. is_named element ≡ true) all_elements = Any-from_list_any is_named all_elements (sym (is_known-elements name) ∙ h) in
    (some.1, (bytes_eq-Decides name (element_name some.1)).0 some.4)

-- a name has a text exactly where it stands among the pairs
pub is_some-text : (name : Text) (pairs : Pairs) → is_some (option_map comparison_text (value_of name pairs)) ≡ is_among name (names_of pairs)
is_some-text name [] = refl
is_some-text name (pair ∷ rest) =
    let found = find (λ (other : Text × Text). same_text name other.0) rest in
    elim (same_text name pair.0) as (λ b. is_some (option_map comparison_text (option_map (λ (other : Text × Text). other.1) (cond b (Some pair) found))) ≡ (b || is_among name (names_of rest))) [
      | true ↦ refl
      | false ↦ is_some-text name rest
    ]

-- where some name is known, some element has a text
pub some_element : (pairs : Pairs) → list_any is_known (names_of pairs) ≡ true → HasElement pairs
some_element pairs h =
    let stands : Any (λ name. is_known name ≡ true) (names_of pairs) = Any-from_list_any is_known (names_of pairs) h in
    let name = stands.1 in
    let among : is_among name (names_of pairs) ≡ true = list_any_at (same_text name) (names_of pairs) stands.0 name stands.2 ((bytes_eq-Decides name (get_or (names_of pairs) stands.0 name)).1 (sym stands.3)) in
    let named = known_element name stands.4 in
    (named.0, ap (λ own. is_some (option_map comparison_text (value_of own pairs))) (sym named.1) ∙ is_some-text name pairs ∙ among)

some_known-address : (long twice known : Bool) → first_fault ((long, TooLong) ∷ (twice, Repeated) ∷ (not known, NoKnownElement) ∷ []) ≡ None → known ≡ true
some_known-address long twice true h = refl
some_known-address true twice false h = cc
some_known-address false true false h = cc
some_known-address false false false h = cc

some_known-pattern : (long twice each known : Bool) → first_fault ((long, TooLong) ∷ (twice, Repeated) ∷ (not each, UnknownElement) ∷ (not known, NoKnownElement) ∷ []) ≡ None → known ≡ true
some_known-pattern long twice each true h = refl
some_known-pattern true twice each false h = cc
some_known-pattern false true each false h = cc
some_known-pattern false false false false h = cc
some_known-pattern false false true false h = cc

pub HasElement-address : (pairs : Pairs) → address_fault pairs ≡ None → HasElement pairs
HasElement-address pairs h =
    some_element pairs (some_known-address (is_too_long pairs) (has_repeat (names_of pairs)) (list_any is_known (names_of pairs)) h)

pub HasElement-pattern : (pairs : Pairs) → pattern_fault pairs ≡ None → HasElement pairs
HasElement-pattern pairs h =
    some_element pairs (some_known-pattern (is_too_long pairs) (has_repeat (names_of pairs)) (list_all is_known (names_of pairs)) (list_any is_known (names_of pairs)) h)
