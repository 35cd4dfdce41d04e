-- The keys of civic elements, and which of them an address and a pattern have.
use Rattle.std.specs.Prelude.{List, Option, option_map, filter_map, length, ◌-◌, slice_get}
use Rattle.lost_spec.specs.Text.{Text}
use Rattle.lost_spec.specs.Civic.{Pairs}
use Rattle.lost_civic.specs.declared.elements.Element.{Element}
use Rattle.lost_civic.specs.Element.{all_elements}
use Rattle.lost_civic.specs.Texts.{text_of}

-- an element with the comparison text of its value (own)
abbrev pub Key : Type 0
Key = Element × Text

-- the key of an element, where it stands in an address or a pattern
abbrev pub key_of : Pairs → Element → Option Key
key_of pairs element = option_map (λ text. (element, text)) (text_of element pairs)

-- the keys of all elements that stand there, in the order of the table (own order)
abbrev pub keys_of : Pairs → List Key
keys_of pairs = filter_map (key_of pairs) all_elements

-- the last of a list
abbrev pub last_of : {X : Type 0} → List X → Option X
last_of xs = slice_get xs (length xs - 1)

-- the key of the last element in the order of the table
abbrev pub last_key : Pairs → Option Key
last_key pairs = last_of (keys_of pairs)
