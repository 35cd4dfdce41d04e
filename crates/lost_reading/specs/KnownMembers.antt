-- What of a line is kept: the members of its request or its desk line that have a name of theirs. (Own.)
use Rattle.std.specs.Prelude.{◌≡◌, Bool, true, ◌||◌, List, Option, Some, None, option_map, option_and_then, codes}
use Rattle.json.specs.Json.{value, if_last}
use Rattle.json.specs.Token.{Token}
use Rattle.serde_json.specs.Data.{Data, Members, no_members, member}
use Rattle.serde_json.specs.Find.{get_member, as_object}
use Rattle.serde_json.specs.Read.{of_json, converted, max_depth}
use Rattle.lost_spec.specs.Text.{Text, same_text}
use Rattle.lost_reading.specs.Desk.{order_in, desk_line}
use Rattle.lost_reading.specs.Requests.{request_in, line_request}

-- the tokens after what was read
abbrev pub passed : {Thing Seen : Type 0} → (Thing → Option Seen) → Option (Thing × List Token) → Option (List Token)
passed kind found = option_map (λ p. p.1) (converted kind found)

-- the tree of a line's tokens
abbrev pub of_tokens : List Token → Option Data
of_tokens tokens = option_and_then of_json (option_and_then (λ p. if_last p.0 p.1) (value max_depth tokens))

-- the name of a member of a request
abbrev pub is_request_member : Text → Bool
is_request_member name =
    same_text (codes "service") name || same_text (codes "location") name || same_text (codes "validateLocation") name
    || same_text (codes "serviceBoundary") name || same_text (codes "path") name || same_text (codes "key") name

-- the name of a member of a desk line that is none of a request
abbrev pub is_desk_member : Text → Bool
is_desk_member name =
    same_text (codes "source") name || same_text (codes "sourceId") name || same_text (codes "lastUpdated") name
    || same_text (codes "expires") name || same_text (codes "uri") name || same_text (codes "serviceNumber") name
    || same_text (codes "default") name || same_text (codes "displayName") name

abbrev pub is_known : Text → Bool
is_known name = is_request_member name || is_desk_member name

-- the members of these names are the same
abbrev pub HaveSameKnown : Members → Members → Type 0
HaveSameKnown all kept = (name : Text) → is_known name ≡ true → get_member name all ≡ get_member name kept

-- both are objects whose members are so, or none is an object
abbrev pub AreObjects : (Members → Members → Type 0) → Option Members → Option Members → Type 0
AreObjects Alike (Some all) (Some kept) = Alike all kept
AreObjects Alike (Some all) None = ⊥
AreObjects Alike None (Some kept) = ⊥
AreObjects Alike None None = Unit {0}

-- both have the same names, and values that are objects with the same known members, or none
abbrev pub HaveSameNames : Members → Members → Type 0
HaveSameNames no_members no_members = Unit {0}
HaveSameNames no_members (member name value rest) = ⊥
HaveSameNames (member name value rest) no_members = ⊥
HaveSameNames (member name value rest) (member other kept more) =
    (name ≡ other) × AreObjects HaveSameKnown (as_object value) (as_object kept) × HaveSameNames rest more

-- the tree tells what the line is
abbrev pub Tells : Data → Text → Type 0
Tells tree line = (line_request line ≡ request_in tree) × (desk_line line ≡ order_in tree)

-- the line is neither a request nor a desk line
abbrev pub IsNeither : Text → Type 0
IsNeither line = (line_request line ≡ None) × (desk_line line ≡ None)
