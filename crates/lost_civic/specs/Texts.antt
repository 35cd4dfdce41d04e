-- The comparison texts that an address and a pattern keep, as the definitions see them.
use Rattle.std.specs.Prelude.{List, map, Option, IsSome, option_map, String, string_bytes}
use Rattle.lost_spec.specs.Text.{Text}
use Rattle.lost_spec.specs.Civic.{Pairs, value_of, comparison_text}
use Rattle.lost_civic.specs.declared.elements.Element.{Element}
use Rattle.lost_civic.specs.declared.texts.Compared.{Compared}
use Rattle.lost_civic.specs.Element.{element_name, all_elements}

-- the comparison text of an element in an address or a pattern, where the element stands there
abbrev pub text_of : Element → Pairs → Option Text
text_of element pairs = option_map comparison_text (value_of (element_name element) pairs)

-- some element stands there
abbrev pub HasElement : Pairs → Type 0
HasElement pairs = (element : Element) × IsSome (text_of element pairs)

-- the comparison text of each element of the table, where it stands there
abbrev pub table_of : Pairs → List (Option Text)
table_of pairs = map (λ element. text_of element pairs) all_elements

abbrev pub seen_table : {A : Type 0} → List (Option (String A)) → List (Option Text)
seen_table texts = map (option_map string_bytes) texts

-- each name with the comparison text of its value
abbrev pub compared_of : Pairs → Pairs
compared_of pairs = map (λ pair. (pair.0, comparison_text pair.1)) pairs

abbrev pub seen_one : Compared → Text × Text
seen_one compared = (element_name compared.element, string_bytes compared.text)

abbrev pub seen_compared : List Compared → Pairs
seen_compared list = map seen_one list
