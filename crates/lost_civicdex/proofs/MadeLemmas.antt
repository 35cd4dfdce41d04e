-- What is made of the keys of the elements up to a place of a list.
use Rattle.std.proofs.Common.{◌≡◌, ℕ, ◌+◌, ◌<◌, List, [], ◌∷◌, ◌++◌, length, map, get_or, Some, None, sym, ◌∙◌, ap}
use Rattle.std.proofs.lemmas.List.{map_push}
use Rattle.lost_spec.specs.Text.{Text}
use Rattle.lost_spec.specs.Civic.{Pairs}
use Rattle.lost_civic.specs.declared.elements.Element.{Element}
use Rattle.lost_civic.specs.declared.elements.Element.TheVariants.{Country}
use Rattle.lost_civic.specs.Texts.{text_of}
use Rattle.lost_civicdex.specs.Keys.{Key}
use Rattle.lost_civicdex.specs.KeyLemmas.{keys_before, keys_grown, keys_kept}

module _ {X : Type 0} (made : Key → X) where
  abbrev pub made_before : Pairs → List Element → ℕ → List X
  made_before pairs elements i = map made (keys_before pairs elements i)

  -- an element that stands at the place adds one
  pub made_pushed : (pairs : Pairs) (elements : List Element) (i : ℕ) (text : Text) (own : X) (before after : List X) → i < length elements
      → Some text ≡ text_of (get_or elements i Country) pairs → own ≡ made (get_or elements i Country, text) → before ≡ made_before pairs elements i
      → after ≡ before ++ own ∷ [] → after ≡ made_before pairs elements (i + 1)
  made_pushed pairs elements i text own before after within h is kept pushed =
      let element = get_or elements i Country in
      pushed ∙ ap (λ all. all ++ own ∷ []) kept ∙ ap (λ one. made_before pairs elements i ++ one ∷ []) is
      ∙ sym (ap (map made) (keys_grown pairs elements i text within h) ∙ map_push made (keys_before pairs elements i) (element, text))

  -- an element that doesn't adds none
  pub made_kept : (pairs : Pairs) (elements : List Element) (i : ℕ) (before : List X) → i < length elements
      → None ≡ text_of (get_or elements i Country) pairs → before ≡ made_before pairs elements i → before ≡ made_before pairs elements (i + 1)
  made_kept pairs elements i before within h kept =
      kept ∙ sym (ap (map made) (keys_kept pairs elements i within h))
