-- Mappings with a pattern that names required elements, or an element, are among the numbers that the indexes give.
use Rattle.std.proofs.Common.{◌≡◌, inl, inr, ℕ, suc, ◌<◌, ◌≤◌, Bool, true, false, ◌&&◌, ◌||◌, List, [], ◌∷◌, length, map, filter_map, option_map, is_some, Option, Some, None, Contains, refl, sym, ap, subst, arith, ◌∙◌}
use Rattle.std.specs.List.{list_all, list_any, cons_option}
use Rattle.std.specs.Cmp.{first_so, second_so}
use Rattle.std.proofs.lemmas.Bool.{false≢true}
use Rattle.lost_spec.specs.Text.{Text}
use Rattle.lost_spec.specs.Civic.{Pairs}
use Rattle.lost_spec.specs.Service.{Service}
use Rattle.lost_spec.specs.Moment.{Instant}
use Rattle.lost_spec.specs.Mapping.{Mapping}
use Rattle.lost_spec.specs.Find.{serves}
use Rattle.lost_spec.specs.Validation.{agrees, same_some, compared}
use Rattle.lost_civic.specs.declared.elements.Element.{Element}
use Rattle.lost_civic.specs.Element.{element_name}
use Rattle.lost_civic.specs.Texts.{text_of}
use Rattle.lost_civicdex.specs.Keys.{Key, key_of}
use Rattle.lost_civicdex.specs.Covers.{names_all}
use Rattle.lost_civicdex.specs.NamedElements.{names_element}
use Rattle.lost_civicdex.proofs.RequiredLemmas.{required_agree}
use Rattle.lost_index.specs.Entries.{holders}
use Rattle.lost_query.specs.Judged.{is_naming, is_reference, is_referring}
use Rattle.lost_tables.specs.declared.tables.Tables.{Tables}
use Rattle.lost_tables.specs.Picks.{Covers}
use Rattle.lost_regions.specs.Regions.{Regions}
use Rattle.lost_routing.specs.Invariants.{IsStore}
use Rattle.lost_routing.specs.Naming.{AreAmong}
use Rattle.lost_routing.proofs.CoverLemmas.{covers_at_reference}

apart : (a b : ℕ) → a < b → a ≡ b → ⊥
apart a b less same = omega (arith, less, same)

fails_unless : (b : Bool) → (b ≡ true → ⊥) → b ≡ false
fails_unless true never = absurd (never refl)
fails_unless false never = refl

any_weaker : {X : Type 0} (p q : X → Bool) → ((x : X) → p x ≡ true → q x ≡ true) → (xs : List X) → list_any p xs ≡ true → list_any q xs ≡ true
any_weaker p q tells [] some = some
any_weaker p q tells (x ∷ xs) some = by (p x) refl some (any_weaker p q tells xs)
  where
    by : (b : Bool) → p x ≡ b → (b || list_any p xs) ≡ true → (list_any p xs ≡ true → list_any q xs ≡ true) → (q x || list_any q xs) ≡ true
    by true here some rest = ap (λ c. c || list_any q xs) (tells x here)
    by false here some rest = or_true (q x) (list_any q xs) (rest some)
      where
        or_true : (a b : Bool) → b ≡ true → (a || b) ≡ true
        or_true true b h = refl
        or_true false b h = h

both_so : (a b : Bool) → a ≡ true → b ≡ true → (a && b) ≡ true
both_so true b first second = second
both_so false b first second = first

any_never : {X : Type 0} (p : X → Bool) → ((x : X) → p x ≡ false) → (xs : List X) → list_any p xs ≡ false
any_never p never [] = refl
any_never p never (x ∷ xs) = ap (λ b. b || list_any p xs) (never x) ∙ any_never p never xs

all_named : {X Y : Type 0} (f : X → Y) (p : Y → Bool) (xs : List X) → list_all p (map f xs) ≡ list_all (λ x. p (f x)) xs
all_named f p [] = refl
all_named f p (x ∷ xs) = ap (λ b. p (f x) && b) (all_named f p xs)

module _ (address : Pairs) where
  abbrev keys_of_all : List Element → List Key
  keys_of_all elements = filter_map (key_of address) elements

  within : (elements : List Element) → length (keys_of_all elements) ≤ length elements
  within [] = omega arith
  within (element ∷ rest) = by (text_of element address) (within rest)
    where
      by : (o : Option Text) → length (keys_of_all rest) ≤ length rest
          → length (cons_option (option_map (λ text. (element, text)) o) (keys_of_all rest)) ≤ suc (length rest)
      by None less = omega (arith, less)
      by (Some text) less = omega (arith, less)

  all_stand : (elements : List Element) → length (keys_of_all elements) ≡ length elements
      → list_all (λ element. is_some (text_of element address)) elements ≡ true
  all_stand [] same = refl
  all_stand (element ∷ rest) same = by (text_of element address) same (all_stand rest)
    where
      by : (o : Option Text) → length (cons_option (option_map (λ text. (element, text)) o) (keys_of_all rest)) ≡ suc (length rest)
          → (length (keys_of_all rest) ≡ length rest → list_all (λ other. is_some (text_of other address)) rest ≡ true)
          → (is_some o && list_all (λ other. is_some (text_of other address)) rest) ≡ true
      by None same later = let less : length (keys_of_all rest) ≤ length rest = within rest in absurd (omega (arith, less, same))
      by (Some text) same later = later (omega (arith, same))

  stand_where_named : (pattern : Pairs) (elements : List Element) → is_reference elements address pattern ≡ true
      → length (keys_of_all elements) ≡ length elements
  stand_where_named pattern [] named = refl
  stand_where_named pattern (element ∷ rest) named =
      let here = agrees address (element_name element) pattern in
      let later = is_reference rest address pattern in
      by (text_of element address) (compared (element_name element) pattern) (first_so here later named)
      (stand_where_named pattern rest (second_so here later named))
    where
      by : (o p : Option Text) → same_some p o ≡ true → length (keys_of_all rest) ≡ length rest
          → length (cons_option (option_map (λ text. (element, text)) o) (keys_of_all rest)) ≡ suc (length rest)
      by None None here same = absurd (false≢true here)
      by None (Some other) here same = absurd (false≢true here)
      by (Some text) p here same = ap suc same

  named_by_keys : (pattern : Pairs) (elements : List Element) → is_reference elements address pattern ≡ true
      → names_all pattern (keys_of_all elements) ≡ true
  named_by_keys pattern elements named =
      required_agree address pattern elements (all_stand elements (stand_where_named pattern elements named))
      ∙ all_named element_name (λ name. agrees address name pattern) elements ∙ named

  module _ (t : Instant) (u : Service) (elements : List Element) where
    named_by_some : (m : Mapping) → is_referring t u address elements m ≡ true
        → list_any (λ pattern. names_all pattern (keys_of_all elements)) m.regions.patterns ≡ true
    named_by_some m referring =
        any_weaker (is_reference elements address) (λ pattern. names_all pattern (keys_of_all elements))
        (λ pattern named. named_by_keys pattern elements named) m.regions.patterns
        (second_so (serves m t u) (list_any (is_reference elements address) m.regions.patterns) referring)

    -- none refers where an element does not stand in the address
    pub none_where_missing : (ms : List Mapping) → (length (keys_of_all elements) < length elements)
        → list_any (is_referring t u address elements) ms ≡ false
    none_where_missing ms missing =
        any_never (is_referring t u address elements)
        (λ m. fails_unless (is_referring t u address elements m)
        (λ referring. false≢true (sym (any_never (is_reference elements address)
        (λ pattern. fails_unless (is_reference elements address pattern) (λ named. apart (length (keys_of_all elements)) (length elements) missing (stand_where_named pattern elements named))) m.regions.patterns)
        ∙ second_so (serves m t u) (list_any (is_reference elements address) m.regions.patterns) referring))) ms

    pub none_where_none : (ms : List Mapping) → keys_of_all elements ≡ [] → 0 < length elements → list_any (is_referring t u address elements) ms ≡ false
    none_where_none ms none some =
        none_where_missing ms (subst (λ (l : List Key). length l < length elements) (sym none) some)

    pub covers_naming : (ns : List ℕ) (ms : List Mapping) (tables : Tables) (regions : Regions) → IsStore ns ms tables regions
        → (required : List Key) (candidates : List ℕ) → required ≡ keys_of_all elements
        → ((n : ℕ) → Contains (holders names_all required regions.references) n → Contains candidates n)
        → Covers (is_referring t u address elements) ns ms candidates
    covers_naming ns ms tables regions kept required candidates are among =
        covers_at_reference ns ms tables regions kept (is_referring t u address elements) names_all (keys_of_all elements) candidates
        (λ m referring. named_by_some m referring) (λ n stands. among n (subst (λ keys. Contains (holders names_all keys regions.references) n) (sym are) stands))

    naming_some : (named : Element) (m : Mapping) → is_naming t u address elements named m ≡ true
        → list_any (λ pattern. names_element pattern named) m.regions.patterns ≡ true
    naming_some named m naming =
        any_weaker (λ pattern. is_reference elements address pattern && names_element pattern named) (λ pattern. names_element pattern named)
        (λ pattern both. second_so (is_reference elements address pattern) (names_element pattern named) both) m.regions.patterns
        (second_so (serves m t u) (list_any (λ pattern. is_reference elements address pattern && names_element pattern named) m.regions.patterns) naming)

    pub covers_named : (ns : List ℕ) (ms : List Mapping) (tables : Tables) (regions : Regions) → IsStore ns ms tables regions
        → (named : Element) (candidates : List ℕ) → ((n : ℕ) → Contains (holders names_element named regions.references) n → Contains candidates n)
        → Covers (is_naming t u address elements named) ns ms candidates
    covers_named ns ms tables regions kept named candidates among =
        covers_at_reference ns ms tables regions kept (is_naming t u address elements named) names_element named candidates
        (λ m naming. naming_some named m naming) among

    abbrev names_both : Element → Mapping → Bool
    names_both named m = list_any (λ pattern. is_reference elements address pattern && names_element pattern named) m.regions.patterns

    -- what names another element too refers
    naming_refers : (named : Element) (m : Mapping) → is_naming t u address elements named m ≡ true → is_referring t u address elements m ≡ true
    naming_refers named m naming =
        both_so (serves m t u) (list_any (is_reference elements address) m.regions.patterns)
        (first_so (serves m t u) (names_both named m) naming)
        (any_weaker (λ pattern. is_reference elements address pattern && names_element pattern named) (is_reference elements address)
        (λ pattern both. first_so (is_reference elements address pattern) (names_element pattern named) both) m.regions.patterns
        (second_so (serves m t u) (names_both named m) naming))

    pub none_named_where_missing : (named : Element) (ms : List Mapping) → (length (keys_of_all elements) < length elements)
        → list_any (is_naming t u address elements named) ms ≡ false
    none_named_where_missing named ms missing =
        fails_unless (list_any (is_naming t u address elements named) ms)
        (λ some. false≢true (sym (none_where_missing ms missing)
        ∙ any_weaker (is_naming t u address elements named) (is_referring t u address elements) (λ m naming. naming_refers named m naming) ms some))

    pub none_named_where_none : (named : Element) (ms : List Mapping) → keys_of_all elements ≡ [] → 0 < length elements
        → list_any (is_naming t u address elements named) ms ≡ false
    none_named_where_none named ms none some =
        none_named_where_missing named ms (subst (λ (l : List Key). length l < length elements) (sym none) some)

    -- each mapping that names the elements and another one is among the candidates of either index
    pub covers_either : (ns : List ℕ) (ms : List Mapping) (tables : Tables) (regions : Regions) → IsStore ns ms tables regions
        → (required : List Key) (named : Element) (candidates : List ℕ) → required ≡ keys_of_all elements
        → AreAmong required named regions candidates → Covers (is_naming t u address elements named) ns ms candidates
    covers_either ns ms tables regions kept required named candidates are (inl among) =
        covers_at_reference ns ms tables regions kept (is_naming t u address elements named) names_all (keys_of_all elements) candidates
        (λ m naming. named_by_some m (naming_refers named m naming))
        (λ n stands. among n (subst (λ keys. Contains (holders names_all keys regions.references) n) (sym are) stands))
    covers_either ns ms tables regions kept required named candidates are (inr among) =
        covers_named ns ms tables regions kept named candidates among
