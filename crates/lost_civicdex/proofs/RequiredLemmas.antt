-- Required elements of an address name the same patterns as the definition of a validation.
use Rattle.std.proofs.Common.{◌≡◌, ◌&&◌, Bool, true, List, [], ◌∷◌, map, filter_map, option_map, is_some, Option, Some, None, refl, ◌∙◌, ap}
use Rattle.std.specs.Cmp.{first_so, second_so}
use Rattle.std.specs.List.{list_all, cons_option}
use Rattle.std.proofs.lemmas.Bool.{false≢true}
use Rattle.lost_spec.specs.Text.{Text}
use Rattle.lost_spec.specs.Civic.{Pairs, value_of, comparison_text, compares_to, has_value}
use Rattle.lost_spec.specs.Validation.{agrees, same_some, compared}
use Rattle.lost_civic.specs.declared.elements.Element.{Element}
use Rattle.lost_civic.specs.Element.{element_name}
use Rattle.lost_civic.specs.Texts.{text_of}
use Rattle.lost_civicdex.specs.Keys.{Key, key_of}
use Rattle.lost_civicdex.specs.Covers.{names_all}
use Rattle.lost_civicdex.specs.References.{RequiredAgree}

-- a value compares to a text exactly where its comparison text is the same
agreeing : (value : Option Text) (text : Text) → compares_to value text ≡ same_some (option_map comparison_text value) (Some text)
agreeing None text = refl
agreeing (Some value) text = refl

named_by : (pattern : Pairs) (element : Element) (found : Option Text) (keys : List Key) (others : Bool) → is_some found ≡ true → names_all pattern keys ≡ others → names_all pattern (cons_option (option_map (λ text. (element, text)) found) keys) ≡ (same_some (compared (element_name element) pattern) found && others)
named_by pattern element None keys others h same = absurd (false≢true h)
named_by pattern element (Some text) keys others h same =
    ap (λ rest. has_value pattern (element_name element) text && rest) same ∙ ap (λ here. here && others) (agreeing (value_of (element_name element) pattern) text)

-- the law, for every address, pattern and list of elements
pub required_agree : RequiredAgree
required_agree address pattern [] stand = refl
required_agree address pattern (element ∷ rest) stand =
    let here = is_some (text_of element address) in
    let stands = list_all (λ other. is_some (text_of other address)) rest in
    named_by pattern element (text_of element address) (filter_map (key_of address) rest) (list_all (λ name. agrees address name pattern) (map element_name rest)) (first_so here stands stand) (required_agree address pattern rest (second_so here stands stand))
