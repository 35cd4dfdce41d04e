-- How members of a JSON object are read. (Own format.)
use Rattle.std.specs.Prelude.{if◌then◌else◌, List, [], ◌∷◌, Option, Some, None, is_some, option_map, option_and_then, unwrap_or, ℤ}
use Rattle.std.specs.Option.{option_or}
use Rattle.std.specs.Result.{result_ok}
use Rattle.std.specs.Str.{is_utf8}
use Rattle.serde_json.specs.Data.{Data, Items, no_items, item, Members, no_members, member}
use Rattle.serde_json.specs.Find.{get_member, as_null, as_number, as_str, as_array, as_object, as_i64}
use Rattle.serde_json.specs.Read.{read}
use Rattle.lost_spec.specs.Text.{Text}
use Rattle.lost_spec.specs.Service.{Service, read_service}
use Rattle.lost_spec.specs.Civic.{Pairs}
use Rattle.lost_spec.specs.Decimal.{decimal}

-- the tree of a line, where its bytes are UTF-8 and JSON
unfoldable pub tree_of : Text → Option Data
tree_of line = if is_utf8 line then read line else None

-- a member that is `null` counts as absent
abbrev pub unless_null : Data → Option Data
unless_null value = if is_some (as_null value) then None else Some value

-- the value of a member that is there
abbrev pub the_member : Text → Members → Option Data
the_member name members = option_and_then unless_null (get_member name members)

-- a required member of a kind
abbrev pub required : {Thing : Type 0} → (Data → Option Thing) → Text → Members → Option Thing
required kind name members = option_and_then kind (the_member name members)

-- an optional member of a kind: absent, or one; nothing where it is of another kind
abbrev pub optional_value : {Thing : Type 0} → (Data → Option Thing) → Option Data → Option (Option Thing)
optional_value kind None = Some None
optional_value kind (Some value) = option_map (λ thing. Some thing) (kind value)

abbrev pub optional : {Thing : Type 0} → (Data → Option Thing) → Text → Members → Option (Option Thing)
optional kind name members = optional_value kind (the_member name members)

-- an optional member of a kind, with what stands for it where it is absent
abbrev pub defaulting : {Thing : Type 0} → (Data → Option Thing) → Thing → Text → Members → Option Thing
defaulting kind default name members = option_map (λ found. unwrap_or found default) (optional kind name members)

-- each item of a list, by one kind
abbrev pub each_of : {Thing : Type 0} → (Data → Option Thing) → Items → Option (List Thing)
each_of kind no_items = Some []
each_of kind (item value rest) = option_and_then (λ thing. option_map (λ things. thing ∷ things) (each_of kind rest)) (kind value)

-- kinds: a list of things of a kind, a whole number, a service
abbrev pub list_in : {Thing : Type 0} → (Data → Option Thing) → Data → Option (List Thing)
list_in kind value = option_and_then (each_of kind) (as_array value)

abbrev pub whole_in : Data → Option ℤ
whole_in value = option_and_then as_i64 (as_number value)

abbrev pub service_in : Data → Option Service
service_in value = option_and_then (λ text. result_ok (read_service text)) (as_str value)

-- a list of two whole numbers: a latitude and a longitude in units of 1e-7 degrees
abbrev pub two_of : List ℤ → Option (ℤ × ℤ)
two_of [] = None
two_of (lat ∷ []) = None
two_of (lat ∷ lon ∷ []) = Some (lat, lon)
two_of (lat ∷ lon ∷ more ∷ rest) = None

abbrev pub pair_in : Data → Option (ℤ × ℤ)
pair_in value = option_and_then two_of (list_in whole_in value)

-- a position: such a pair, or a text of decimal degrees
abbrev pub position_in : Data → Option (ℤ × ℤ)
position_in value = option_or (pair_in value) (option_and_then decimal (as_str value))

-- an object whose values are texts: names and values, in ascending byte order of the names
abbrev pub pairs_of : Members → Option Pairs
pairs_of no_members = Some []
pairs_of (member name value rest) = option_and_then (λ text. option_map (λ pairs. (name, text) ∷ pairs) (pairs_of rest)) (as_str value)

abbrev pub pairs_in : Data → Option Pairs
pairs_in value = option_and_then pairs_of (as_object value)

-- the one member of an object that has exactly one
abbrev pub one_of : Members → Option (Text × Data)
one_of no_members = None
one_of (member name value no_members) = Some (name, value)
one_of (member name value (member other more rest)) = None

abbrev pub only_member : Data → Option (Text × Data)
only_member value = option_and_then one_of (as_object value)
