-- The laws of the elements that a pattern names.
use Rattle.std.proofs.Common.{◌≡◌, ◌≤◌, Bool, true, false, cond, ◌||◌, [], ◌∷◌, length, find, option_map, is_some, Some, IsTrue, refl, ◌∙◌, arith}
use Rattle.std.specs.List.{IsDistinct}
use Rattle.std.proofs.lemmas.List.{length-map}
use Rattle.lost_spec.specs.Text.{Text, same_text, is_among}
use Rattle.lost_spec.specs.Civic.{Pairs, names_of, value_of, comparison_text}
use Rattle.lost_civic.specs.declared.elements.Element.{Element}
use Rattle.lost_civic.specs.Element.{element_name, all_elements}
use Rattle.lost_civic.specs.Texts.{text_of}
use Rattle.lost_civic.proofs.Present.{is_some-text}
use Rattle.lost_profile.specs.Keys.{SharesKey}
use Rattle.lost_civicdex.specs.Keys.{keys_of}
use Rattle.lost_civicdex.specs.KeysApart.{AreApart, keys_distinct, keys_bounded}
use Rattle.lost_civicdex.specs.KeyPresence.{key_stands}
use Rattle.lost_civicdex.specs.CoverLaws.{in_map, text_from_IsSome}
use Rattle.lost_civicdex.specs.NamedElements.{names_element, named_cover, element_probes}

-- an element that a pattern names is a key of both
pub named_shares : (pattern : Pairs) (element : Element) → IsTrue (names_element pattern element) → SharesKey (named_cover pattern) (element_probes element)
named_shares pattern element holds =
    let text = text_from_IsSome (text_of element pattern) (is_some-text (element_name element) pattern ∙ holds) in
    record {
      key = element;
      in_left = in_map (λ key. key.0) (keys_of pattern) (element, text.0) (key_stands pattern element text.0 text.1);
      in_right = (0, omega arith, refl);
    }

-- a pattern names at most as many as there are
pub named_bounded : (pattern : Pairs) → length (named_cover pattern) ≤ 31
named_bounded pattern = omega (arith, length-map (keys_of pattern) (λ k. k.0), keys_bounded pattern)

-- no element stands twice, whichever test tells elements apart
pub named_distinct : (same : Element → Element → Bool) → AreApart (λ key. key.0) same all_elements → (pattern : Pairs) → IsDistinct same (named_cover pattern)
named_distinct same apart pattern = keys_distinct (λ key. key.0) same apart pattern
