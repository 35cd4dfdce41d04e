-- The keys of an address or a pattern are all different, and at most 31.
use Rattle.std.proofs.Common.{◌≡◌, ℕ, ◌+◌, ◌≤◌, Bool, true, false, not, ◌&&◌, List, [], ◌∷◌, length, map, filter_map, option_map, Option, Some, None, refl, arith, option_to_list}
use Rattle.std.specs.Cmp.{first_so, second_so}
use Rattle.std.specs.List.{cons_option, list_all, AllByRecursion, IsDistinct}
use Rattle.std.proofs.lemmas.Bool.{false≢true}
use Rattle.std.proofs.lemmas.Map.Keys.{IsDistinct-cons}
use Rattle.lost_spec.specs.Text.{Text}
use Rattle.lost_spec.specs.Civic.{Pairs}
use Rattle.lost_civic.specs.declared.elements.Element.{Element}
use Rattle.lost_civic.specs.Element.{all_elements}
use Rattle.lost_civic.specs.Texts.{text_of}
use Rattle.lost_civicdex.specs.Keys.{Key, key_of, keys_of}

false_from_not : (b : Bool) → not b ≡ true → b ≡ false
false_from_not false h = refl
false_from_not true h = absurd (false≢true h)

-- ---- what is made of keys, with any test that tells apart what is made of keys of different elements
module _ {X : Type 0} (made : Key → X) (same : X → X → Bool) where
  -- the keys of the elements, with one text, differ from the key of an element
  abbrev differ_from : Element → Text → Text → List Element → Bool
  differ_from element text own others = list_all (λ other. not (same (made (element, text)) (made (other, own)))) others

  -- each element of a list differs from those after it, whatever their texts are
  abbrev pub are_apart : Text → Text → List Element → Bool
  are_apart text own [] = true
  are_apart text own (element ∷ rest) = differ_from element text own rest && are_apart text own rest

  abbrev pub AreApart : List Element → Type 0
  AreApart elements = (text own : Text) → are_apart text own elements ≡ true

  abbrev Differ : Element → Text → List Key → Type 0
  Differ element text keys = AllByRecursion (λ other. same (made (element, text)) other ≡ false) (map made keys)

  differ_by : (element other : Element) (text : Text) (found : Option Text) (keys : List Key)
      → ((own : Text) → not (same (made (element, text)) (made (other, own))) ≡ true) → Differ element text keys
      → Differ element text (cons_option (option_map (λ own. (other, own)) found) keys)
  differ_by element other text None keys apart h = h
  differ_by element other text (Some own) keys apart h =
      (false_from_not (same (made (element, text)) (made (other, own))) (apart own), h)

  -- a key differs from those of other elements
  differ : (pairs : Pairs) (element : Element) (text : Text) (others : List Element)
      → ((own : Text) → differ_from element text own others ≡ true) → Differ element text (filter_map (key_of pairs) others)
  differ pairs element text [] apart = tt
  differ pairs element text (other ∷ rest) apart =
      let here : Text → Bool = λ own. not (same (made (element, text)) (made (other, own))) in
      differ_by element other text (text_of other pairs) (filter_map (key_of pairs) rest)
      (λ own. first_so (here own) (differ_from element text own rest) (apart own))
      (differ pairs element text rest (λ own. second_so (here own) (differ_from element text own rest) (apart own)))

  distinct_none : IsDistinct same []
  unfolding IsDistinct
  distinct_none = tt

  distinct_by : (element : Element) (found : Option Text) (keys : List Key) → ((text : Text) → Differ element text keys)
      → IsDistinct same (map made keys) → IsDistinct same (map made (cons_option (option_map (λ text. (element, text)) found) keys))
  distinct_by element None keys differs h = h
  distinct_by element (Some text) keys differs h = IsDistinct-cons same (made (element, text)) (map made keys) (differs text) h

  distinct_of : (pairs : Pairs) (elements : List Element) → AreApart elements
      → IsDistinct same (map made (filter_map (key_of pairs) elements))
  distinct_of pairs [] apart = distinct_none
  distinct_of pairs (element ∷ rest) apart =
      let here : Text → Text → Bool = λ text own. differ_from element text own rest in
      distinct_by element (text_of element pairs) (filter_map (key_of pairs) rest)
      (λ text. differ pairs element text rest (λ own. first_so (here text own) (are_apart text own rest) (apart text own)))
      (distinct_of pairs rest (λ text own. second_so (here text own) (are_apart text own rest) (apart text own)))

  -- nothing that is made of them stands twice
  pub keys_distinct : AreApart all_elements → (pairs : Pairs) → IsDistinct same (map made (keys_of pairs))
  keys_distinct apart pairs = distinct_of pairs all_elements apart

  -- what is made of one key is not there twice
  pub one_distinct : (found : Option Key) → IsDistinct same (map made (option_to_list found))
  one_distinct None = distinct_none
  one_distinct (Some key) = IsDistinct-cons same (made key) [] tt distinct_none

-- ---- their number

pub one_at_most : (found : Option Key) → length (option_to_list found) ≤ 1
one_at_most None = omega arith
one_at_most (Some key) = omega arith

shorter_by : (element : Element) (found : Option Text) (keys : List Key) (n : ℕ) → length keys ≤ n → length (cons_option (option_map (λ text. (element, text)) found) keys) ≤ n + 1
shorter_by element None keys n h = omega arith
shorter_by element (Some text) keys n h = omega arith

shorter : (pairs : Pairs) (elements : List Element) → length (filter_map (key_of pairs) elements) ≤ length elements
shorter pairs [] = omega arith
shorter pairs (element ∷ rest) =
    omega (arith, shorter_by element (text_of element pairs) (filter_map (key_of pairs) rest) (length rest) (shorter pairs rest))

-- there are at most as many as there are elements
pub keys_bounded : (pairs : Pairs) → length (keys_of pairs) ≤ 31
keys_bounded pairs = shorter pairs all_elements
