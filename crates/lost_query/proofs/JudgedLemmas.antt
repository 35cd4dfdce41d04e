-- What is judged element by element is the validation of the address.
use Rattle.std.proofs.Common.{◌≡◌, Bool, true, false, cond, not, ◌&&◌, ◌||◌, List, [], ◌∷◌, ◌++◌, map, filter, find, Some, None, refl, sym, ap, ◌∙◌}
use Rattle.std.specs.List.{AllByRecursion, list_any, list_all}
use Rattle.std.proofs.lemmas.Bool.{false≢true}
use Rattle.std.proofs.lemmas.List.Folds.{list_all-map}
use Rattle.lost_spec.specs.declared.faults.CivicError.TheVariants.{NoKnownElement, Repeated, TooLong, UnknownElement}
use Rattle.lost_spec.specs.Text.{Text, same_text, is_among, has_repeat, first_fault, ascending_by}
use Rattle.lost_spec.specs.Civic.{Pairs, names_of, element_names, is_known, is_too_long, pattern_fault, matches}
use Rattle.lost_spec.specs.Service.{Service}
use Rattle.lost_spec.specs.Moment.{Instant}
use Rattle.lost_spec.specs.Mapping.{Mapping}
use Rattle.lost_spec.specs.Book.{Book}
use Rattle.lost_spec.specs.Validation.{Validation, unknown_names, ordered_names, patterns_in, of_service, agrees, names_it, is_valid, valid_names, reference_patterns, is_invalid, validation}
use Rattle.lost_spec.proofs.ListLemmas.{AllByRecursion-weaker}
use Rattle.lost_spec.proofs.OrderLemmas.{AllByRecursion-ascending_by}
use Rattle.lost_civic.specs.declared.elements.Element.{Element}
use Rattle.lost_civic.specs.Element.{element_name, all_elements}
use Rattle.lost_civic.proofs.ElementLemmas.{element_named-element_name, is_known-elements}
use Rattle.lost_query.specs.Judged.{stands_in, is_named, is_contradicted, is_reference, is_valid_element, ValidatesNoOther}
use Rattle.lost_query.proofs.ReferenceLemmas.{contradicted}
use Rattle.lost_query.proofs.SplitLemmas.{filter_alike, filter-map, filter-filter, list_any-filter_both, passes_filter, is_among-fails, filter_first, filter_both}

-- ---- known names and others

false-from_not : (b : Bool) → not b ≡ true → b ≡ false
false-from_not true h = absurd (false≢true h)
false-from_not false h = refl

-- the names of the table are those of the elements
element_names-elements : element_names ≡ map element_name all_elements
unfolding element_name
element_names-elements = refl

-- where a thing is found, some thing passes
list_any-find : {Thing : Type 0} (p : Thing → Bool) (xs : List Thing) (x : Thing) → find p xs ≡ Some x → list_any p xs ≡ true
list_any-find p [] x e = absurd (cc)
list_any-find p (y ∷ ys) x e = by (p y) e (list_any-find p ys x)
  where
    by : (b : Bool) → cond b (Some y) (find p ys) ≡ Some x → (find p ys ≡ Some x → list_any p ys ≡ true) → (b || list_any p ys) ≡ true
    by true e later = refl
    by false e later = later e

-- the name of an element is known
is_known-element_name : (element : Element) → is_known (element_name element) ≡ true
is_known-element_name element =
    is_known-elements (element_name element) ∙ list_any-find (λ (other : Element). same_text (element_name element) (element_name other)) all_elements element (element_named-element_name element)

-- the known names of an address are those of the elements that stand there
known_names : (address : Pairs) → filter (λ name. is_among name (names_of address)) element_names ≡ map element_name (filter (stands_in address) all_elements)
known_names address =
    ap (filter (λ name. is_among name (names_of address))) element_names-elements ∙ filter-map (λ name. is_among name (names_of address)) element_name all_elements

-- its other names, in order
abbrev pub others_of : Pairs → List Text
others_of address = ascending_by (λ name. name) (unknown_names address)

-- are not known
others_unknown : (address : Pairs) → AllByRecursion (λ name. is_known name ≡ false) (others_of address)
others_unknown address =
    AllByRecursion-ascending_by (λ name. name) (λ name. is_known name ≡ false) (unknown_names address)
    (AllByRecursion-weaker (λ name. not (is_known name) ≡ true) (λ name. is_known name ≡ false) (λ name. false-from_not (is_known name)) (unknown_names address) (passes_filter (λ name. not (is_known name)) (names_of address)))

ordered_names-elements : (address : Pairs) → ordered_names address ≡ map element_name (filter (stands_in address) all_elements) ++ others_of address
ordered_names-elements address = ap (λ names. names ++ others_of address) (known_names address)

-- ---- a pattern names no other

each_known : (long twice each some : Bool) → first_fault ((long, TooLong) ∷ (twice, Repeated) ∷ (not each, UnknownElement) ∷ (not some, NoKnownElement) ∷ []) ≡ None → each ≡ true
each_known long twice true some h = refl
each_known true twice false some h = absurd (cc)
each_known false true false some h = absurd (cc)
each_known false false false some h = absurd (cc)

names_no_other : (pattern : Pairs) (name : Text) → is_known name ≡ false → pattern_fault pattern ≡ None → names_it name pattern ≡ false
names_no_other pattern name unknown lawful =
    is_among-fails is_known name (names_of pattern) unknown (each_known (is_too_long pattern) (has_repeat (names_of pattern)) (list_all is_known (names_of pattern)) (list_any is_known (names_of pattern)) lawful)

none_names_other : (patterns : List Pairs) (name : Text) → is_known name ≡ false → AllByRecursion (λ pattern. pattern_fault pattern ≡ None) patterns → list_any (names_it name) patterns ≡ false
none_names_other [] name unknown all = refl
none_names_other (pattern ∷ rest) name unknown all =
    ap (λ b. b || list_any (names_it name) rest) (names_no_other pattern name unknown all.0) ∙ none_names_other rest name unknown all.1

-- ---- the three kinds

-- k, the name is known; v, it is valid; n, some reference names it; a, some agrees
invalid-known : (k v n a : Bool) → k ≡ true → (k && not v && n && not a) ≡ (not v && (n && not a))
invalid-known k true n a known = ap (λ b. b && false && n && not a) known
invalid-known k false n a known = ap (λ b. b && true && n && not a) known

unchecked-known : (k v n a : Bool) → k ≡ true → (not v && not (k && not v && n && not a)) ≡ (not v && not (n && not a))
unchecked-known k true n a known = refl
unchecked-known k false n a known = ap (λ b. not (b && true && n && not a)) known

invalid-unknown : (k v n a : Bool) → k ≡ false → (k && not v && n && not a) ≡ false
invalid-unknown k v n a unknown = ap (λ b. b && not v && n && not a) unknown

unchecked-unknown : (k v n a : Bool) → k ≡ false → v ≡ false → (not v && not (k && not v && n && not a)) ≡ true
unchecked-unknown k v n a unknown fails = ap (λ b. not b && not (k && not b && n && not a)) fails ∙ ap (λ b. not (b && true && n && not a)) unknown

same_validation : {i j u w v x : List Text} → i ≡ j → u ≡ w → v ≡ x → ◌≡◌ {A = Validation} (record { invalid = i; unchecked = u; valid = v }) (record { invalid = j; unchecked = w; valid = x })
same_validation {i} {j} {u} {w} {v} {x} p q r =
    let first : ◌≡◌ {A = Validation} (record { invalid = i; unchecked = u; valid = v }) (record { invalid = j; unchecked = u; valid = v }) = ap (λ (n : List Text). record { invalid = n; unchecked = u; valid = v }) p in
    let second : ◌≡◌ {A = Validation} (record { invalid = j; unchecked = u; valid = v }) (record { invalid = j; unchecked = w; valid = v }) = ap (λ (n : List Text). record { invalid = j; unchecked = n; valid = v }) q in
    let third : ◌≡◌ {A = Validation} (record { invalid = j; unchecked = w; valid = v }) (record { invalid = j; unchecked = w; valid = x }) = ap (λ (n : List Text). record { invalid = j; unchecked = w; valid = n }) r in
    first ∙ second ∙ third

-- ---- valid names

-- a name is valid where some pattern that matches names it
pub valid_name : (found : List Mapping) (address : Pairs) (matching : List Pairs) → matching ≡ filter (λ p. matches p address) (patterns_in found) → (name : Text) → is_valid found address name ≡ list_any (names_it name) matching
valid_name found address matching are name =
    list_any-filter_both (λ p. matches p address) (names_it name) (patterns_in found) ∙ ap (list_any (names_it name)) (sym are)

-- what is named by a pattern that matches is valid, and what is not is not
pub named_valid : (found : List Mapping) (address : Pairs) (matching : List Pairs) → matching ≡ filter (λ p. matches p address) (patterns_in found) → (elements given : List Element) → elements ≡ given → filter (is_named matching) elements ≡ filter (is_valid_element found address) given
named_valid found address matching are elements given same =
    filter_alike (is_named matching) (is_valid_element found address) (λ e. sym (valid_name found address matching are (element_name e))) elements
    ∙ ap (filter (is_valid_element found address)) same

pub named_others : (found : List Mapping) (address : Pairs) (matching : List Pairs) → matching ≡ filter (λ p. matches p address) (patterns_in found) → (elements given : List Element) → elements ≡ given → filter (λ e. not (is_named matching e)) elements ≡ filter (λ e. not (is_valid_element found address e)) given
named_others found address matching are elements given same =
    filter_alike (λ e. not (is_named matching e)) (λ e. not (is_valid_element found address e)) (λ e. ap not (sym (valid_name found address matching are (element_name e)))) elements
    ∙ ap (filter (λ e. not (is_valid_element found address e))) same

-- a name of no element is not valid
pub no_other_valid : (found : List Mapping) (address : Pairs) (matching : List Pairs) → matching ≡ filter (λ p. matches p address) (patterns_in found) → AllByRecursion (λ p. pattern_fault p ≡ None) matching → ValidatesNoOther found address
no_other_valid found address matching are lawful = record {
  unknown = λ name unknown. valid_name found address matching are name ∙ none_names_other matching name unknown lawful;
}

-- ---- the validation

module _ (b : Book) (t : Instant) (u : Service) (found : List Mapping) (address : Pairs)
    (valid others invalid unchecked : List Element)
    (valid_are : valid ≡ filter (is_valid_element found address) (filter (stands_in address) all_elements))
    (others_are : others ≡ filter (λ e. not (is_valid_element found address e)) (filter (stands_in address) all_elements))
    (no_other : ValidatesNoOther found address)
    (invalid_are : invalid ≡ filter (is_contradicted b t u address valid) others)
    (unchecked_are : unchecked ≡ filter (λ e. not (is_contradicted b t u address valid e)) others) where
  abbrev references : List Pairs
  references = filter (is_reference valid address) (patterns_in (of_service b t u))

  abbrev elements : List Element
  elements = filter (stands_in address) all_elements

  names : ordered_names address ≡ map element_name elements ++ others_of address
  names = ordered_names-elements address

  valid_is : map element_name valid ≡ valid_names found address
  valid_is =
      ap (map element_name) valid_are
      ∙ sym (ap (filter (is_valid found address)) names
      ∙ filter_first (is_valid found address) (is_valid_element found address) element_name (λ e. refl) elements (others_of address)
      (AllByRecursion-weaker (λ name. is_known name ≡ false) (λ name. is_valid found address name ≡ false) no_other.unknown (others_of address) (others_unknown address)))

  references_is : references ≡ reference_patterns b t u found address
  references_is =
      filter_alike (is_reference valid address) (λ p. list_all (λ name. agrees address name p) (valid_names found address)) (λ p. sym (ap (list_all (λ name. agrees address name p)) (sym valid_is) ∙ list_all-map (λ name. agrees address name p) element_name valid)) (patterns_in (of_service b t u))

  -- an element is invalid, and is unchecked, where it is not valid and is contradicted, or is not
  abbrev is_other : Element → Bool
  is_other e = not (is_valid_element found address e)

  abbrev is_agreed : Element → Bool
  is_agreed e = list_any (agrees address (element_name e)) references

  invalid_name : (e : Element) → is_invalid references found address (element_name e) ≡ (is_other e && is_contradicted b t u address valid e)
  invalid_name e =
      invalid-known (is_known (element_name e)) (is_valid found address (element_name e)) (is_named references e) (is_agreed e) (is_known-element_name e)
      ∙ ap (λ c. is_other e && c) (sym (contradicted b t u address valid e))

  no_other_invalid : (name : Text) → is_known name ≡ false → is_invalid references found address name ≡ false
  no_other_invalid name =
      invalid-unknown (is_known name) (is_valid found address name) (list_any (names_it name) references) (list_any (agrees address name) references)

  invalid_is : map element_name invalid ≡ filter (is_invalid references found address) (ordered_names address)
  invalid_is =
      ap (map element_name) (invalid_are ∙ ap (filter (is_contradicted b t u address valid)) others_are ∙ filter-filter is_other (is_contradicted b t u address valid) elements)
      ∙ sym (ap (filter (is_invalid references found address)) names
      ∙ filter_first (is_invalid references found address) (λ e. is_other e && is_contradicted b t u address valid e) element_name invalid_name elements (others_of address)
      (AllByRecursion-weaker (λ name. is_known name ≡ false) (λ name. is_invalid references found address name ≡ false) no_other_invalid (others_of address) (others_unknown address)))

  abbrev is_unchecked : Text → Bool
  is_unchecked name = not (is_valid found address name) && not (is_invalid references found address name)

  unchecked_name : (e : Element) → is_unchecked (element_name e) ≡ (is_other e && not (is_contradicted b t u address valid e))
  unchecked_name e =
      unchecked-known (is_known (element_name e)) (is_valid found address (element_name e)) (is_named references e) (is_agreed e) (is_known-element_name e)
      ∙ ap (λ c. is_other e && not c) (sym (contradicted b t u address valid e))

  others_unchecked : (name : Text) → is_known name ≡ false → is_unchecked name ≡ true
  others_unchecked name unknown =
      unchecked-unknown (is_known name) (is_valid found address name) (list_any (names_it name) references) (list_any (agrees address name) references) unknown (no_other.unknown name unknown)

  unchecked_is : map element_name unchecked ++ others_of address ≡ filter (λ name. not (is_valid found address name) && not (is_invalid references found address name)) (ordered_names address)
  unchecked_is =
      ap (λ es. map element_name es ++ others_of address) (unchecked_are ∙ ap (filter (λ e. not (is_contradicted b t u address valid e))) others_are ∙ filter-filter is_other (λ e. not (is_contradicted b t u address valid e)) elements)
      ∙ sym (ap (filter is_unchecked) names
      ∙ filter_both is_unchecked (λ e. is_other e && not (is_contradicted b t u address valid e)) element_name unchecked_name elements (others_of address)
      (AllByRecursion-weaker (λ name. is_known name ≡ false) (λ name. is_unchecked name ≡ true) others_unchecked (others_of address) (others_unknown address)))

  -- so the three lists are the validation
  pub validation_is :
      (invalid_names unchecked_names valid_names : List Text)
      → invalid_names ≡ map element_name invalid
      → unchecked_names ≡ map element_name unchecked ++ others_of address
      → valid_names ≡ map element_name valid
      → record { invalid = invalid_names; unchecked = unchecked_names; valid = valid_names } ≡ validation b t u found address
  unfolding validation
  validation_is invalid_names unchecked_names valid_names are_invalid are_unchecked are_valid =
      same_validation
      (are_invalid ∙ invalid_is ∙ ap (λ r. filter (is_invalid r found address) (ordered_names address)) references_is)
      (are_unchecked ∙ unchecked_is ∙ ap (λ r. filter (λ name. not (is_valid found address name) && not (is_invalid r found address name)) (ordered_names address)) references_is)
      (are_valid ∙ valid_is)
