-- What some reference pattern tells is what some mapping tells whose patterns name each valid element as the address does.
use Rattle.std.proofs.Common.{◌≡◌, Bool, true, false, not, ◌&&◌, ◌||◌, List, [], ◌∷◌, ◌++◌, filter, refl, sym, ap, ◌∙◌}
use Rattle.std.specs.List.{list_any}
use Rattle.std.proofs.lemmas.List.Folds.{list_any-append, list_all-append}
use Rattle.lost_spec.specs.Civic.{Pairs}
use Rattle.lost_spec.specs.Service.{Service}
use Rattle.lost_spec.specs.Moment.{Instant}
use Rattle.lost_spec.specs.Mapping.{Mapping}
use Rattle.lost_spec.specs.Book.{Book}
use Rattle.lost_spec.specs.Find.{serves}
use Rattle.lost_spec.specs.Validation.{agrees, names_it, patterns_in, of_service}
use Rattle.lost_civic.specs.declared.elements.Element.{Element}
use Rattle.lost_civic.specs.Element.{element_name}
use Rattle.lost_query.specs.Judged.{is_named, is_reference, is_referring, is_naming, is_contradicted}
use Rattle.lost_query.proofs.SplitLemmas.{list_any-filter_both}

-- ---- tests of some thing

-- two tests that agree find alike
list_any_alike : {Thing : Type 0} (p q : Thing → Bool) → ((x : Thing) → p x ≡ q x) → (xs : List Thing) → list_any p xs ≡ list_any q xs
list_any_alike p q same [] = refl
list_any_alike p q same (x ∷ xs) =
    ap (λ b. b || list_any p xs) (same x) ∙ ap (λ b. q x || b) (list_any_alike p q same xs)

-- some pattern of the mappings passes where some mapping has one that passes
list_any-patterns_in : (p : Pairs → Bool) (ms : List Mapping) → list_any p (patterns_in ms) ≡ list_any (λ m. list_any p m.regions.patterns) ms
list_any-patterns_in p [] = refl
list_any-patterns_in p (m ∷ ms) =
    list_any-append p m.regions.patterns (patterns_in ms) ∙ ap (λ b. list_any p m.regions.patterns || b) (list_any-patterns_in p ms)

-- some pattern that is kept, of mappings that are kept, passes
list_any-references : (serving : Mapping → Bool) (kept passes : Pairs → Bool) (ms : List Mapping) → list_any passes (filter kept (patterns_in (filter serving ms))) ≡ list_any (λ m. serving m && list_any (λ p. kept p && passes p) m.regions.patterns) ms
list_any-references serving kept passes ms =
    sym (list_any-filter_both kept passes (patterns_in (filter serving ms)))
    ∙ list_any-patterns_in (λ p. kept p && passes p) (filter serving ms)
    ∙ sym (list_any-filter_both serving (λ m. list_any (λ p. kept p && passes p) m.regions.patterns) ms)

-- ---- the two questions

and-true : (b : Bool) → (b && true) ≡ b
and-true true = refl
and-true false = refl

-- a pattern names one more element as the address does
is_reference-more : (valid : List Element) (address : Pairs) (element : Element) (p : Pairs) → is_reference (valid ++ element ∷ []) address p ≡ (is_reference valid address p && agrees address (element_name element) p)
is_reference-more valid address element p =
    list_all-append (λ (e : Element). agrees address (element_name e) p) valid (element ∷ [])
    ∙ ap (λ b. is_reference valid address p && b) (and-true (agrees address (element_name element) p))

module _ (b : Book) (t : Instant) (u : Service) (address : Pairs) (valid : List Element) (element : Element) where
  abbrev references : List Pairs
  references = filter (is_reference valid address) (patterns_in (of_service b t u))

  -- some reference names the element
  named : is_named references element ≡ list_any (is_naming t u address valid element) b.mappings
  named = list_any-references (λ m. serves m t u) (is_reference valid address) (names_it (element_name element)) b.mappings

  -- some reference names it as the address does
  agreed : list_any (agrees address (element_name element)) references ≡ list_any (is_referring t u address (valid ++ element ∷ [])) b.mappings
  agreed =
      list_any-references (λ m. serves m t u) (is_reference valid address) (agrees address (element_name element)) b.mappings
      ∙ sym (list_any_alike (is_referring t u address (valid ++ element ∷ [])) (λ m. serves m t u && list_any (λ p. is_reference valid address p && agrees address (element_name element) p) m.regions.patterns) (λ m. ap (λ some. serves m t u && some) (list_any_alike (is_reference (valid ++ element ∷ []) address) (λ p. is_reference valid address p && agrees address (element_name element) p) (is_reference-more valid address element) m.regions.patterns)) b.mappings)

  -- so the references contradict it where the mappings do
  pub contradicted : is_contradicted b t u address valid element ≡ (is_named references element && not (list_any (agrees address (element_name element)) references))
  contradicted =
      ap (λ n. n && not (list_any (is_referring t u address (valid ++ element ∷ [])) b.mappings)) (sym named)
      ∙ ap (λ a. is_named references element && not a) (sym agreed)
