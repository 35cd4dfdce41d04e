-- What the tokens of a line stand for. (Own.)
use Rattle.std.specs.Prelude.{◌≡◌, ℕ, ◌+◌, ◌-◌, ◌&&◌, nat_le, List, [], ◌∷◌, length, Bool, true, Option, Some, is_some, unwrap_or, option_and_then}
use Rattle.json.specs.Token.{Token}
use Rattle.json.specs.Json as json
use Rattle.json.specs.Lex.{tokens}
use Rattle.json.specs.Find.{BeginsWith, InItems, InMembers}
use Rattle.serde_json.specs.Data.{Data, null, Items, Members, no_members}
use Rattle.serde_json.specs.Find.{as_object}
use Rattle.serde_json.specs.Read.{number_of, of_json, of_items, of_members}

-- the tree of the value that tokens begin with
unfoldable pub tree_at : List Token → Option Data
tree_at ts = option_and_then (λ p. of_json p.0) (json.value (length ts) ts)

abbrev pub data_of : List Token → Data
data_of ts = unwrap_or (tree_at ts) null

abbrev pub members_of : List Token → Members
members_of ts = unwrap_or (as_object (data_of ts)) no_members

-- the tokens begin with a value that has a tree
abbrev pub IsTree : List Token → Type 0
IsTree ts = is_some (tree_at ts) ≡ true

-- the tokens begin with these items of an array, to its end
abbrev pub HoldsItems : List Token → Items → Type 0
HoldsItems ts items = (js : json.Items) × InItems ts js × (of_items js ≡ Some items)

-- a number of a tree is one that is read
abbrev pub is_sure : Token → Bool
is_sure Token.begin_object = true
is_sure Token.end_object = true
is_sure Token.begin_array = true
is_sure Token.end_array = true
is_sure (Token.key s) = true
is_sure (Token.string s) = true
is_sure (Token.number s) = is_some (number_of s)
is_sure (Token.boolean b) = true
is_sure Token.null = true
is_sure Token.bad = true

-- the level of nesting behind a token
abbrev pub level_after : ℕ → Token → ℕ
level_after level Token.begin_object = level + 1
level_after level Token.end_object = level - 1
level_after level Token.begin_array = level + 1
level_after level Token.end_array = level - 1
level_after level (Token.key s) = level
level_after level (Token.string s) = level
level_after level (Token.number s) = level
level_after level (Token.boolean b) = level
level_after level Token.null = level
level_after level Token.bad = level

-- from a level on, tokens lead to no level above 127
abbrev pub nests_within : ℕ → List Token → Bool
nests_within level [] = true
nests_within level (t ∷ ts) = nat_le (level_after level t) 127 && nests_within (level_after level t) ts

-- the tokens begin with items of an array that have trees, to its end
abbrev pub HasItems : List Token → Type 0
HasItems ts = (items : Items) × HoldsItems ts items

-- the tokens begin with members of an object, to its end; put into those before them they make these
abbrev pub HoldsMembers : List Token → Members → Members → Type 0
HoldsMembers ts before all = (ms : json.Members) × InMembers ts ms × (of_members ms before ≡ Some all)

-- the tokens begin with members of an object that have trees, to its end
abbrev pub HasMembers : List Token → Type 0
HasMembers ts = (before : Members) × (all : Members) × HoldsMembers ts before all

-- these are the tokens of a text that is one value
abbrev pub IsTapeOf : List ℕ → List Token → Type 0
IsTapeOf text ts = (ts ≡ tokens text) × (j : json.Json) × (json.document text ≡ Some j) × BeginsWith ts j
