-- What the parts of a mapping tell as they lie in a tree. (Own.)
use Rattle.std.specs.Prelude.{◌≡◌, Bool, false, [], Option, Some, None, option_map, option_and_then, unwrap_or, ℤ, pos, String, string_bytes, codes}
use Rattle.std.specs.declared.alloc.Global.{Global}
use Rattle.serde_json.specs.Data.{Data, Members}
use Rattle.serde_json.specs.Find.{as_str, as_object}
use Rattle.serde_json.specs.View.{view}
use Rattle.serde_json.specs.declared.value.Value.{Value}
use Rattle.lost_spec.specs.Place.{Region, PatternRegion, UnreadableRegion}
use Rattle.lost_spec.specs.Text.{Text}
use Rattle.lost_spec.specs.Mapping.{DisplayName, Parts}
use Rattle.lost_civic.specs.Pairs.{is_pattern_pair}
use Rattle.lost_mapping.specs.Parts.{borrowed_parts_of}
use Rattle.lost_mapping.specs.declared.parts.BorrowedParts.{BorrowedParts}
use Rattle.lost_reading.specs.Members.{required, pairs_of, position_in}
use Rattle.lost_reading.specs.Desk.{region_in, display_name_of_members, display_name_in}

-- a text, or the empty one
abbrev pub text_or_empty : Data → Text
text_or_empty value = unwrap_or (as_str value) []

-- a position, or that of two zeros
abbrev pub position_or_zeros : Data → ℤ × ℤ
position_or_zeros value = unwrap_or (position_in value) (pos 0, pos 0)

-- the text of a member of an object, or the empty one
abbrev pub member_text_or_empty : Text → Data → Text
member_text_or_empty name value = unwrap_or (option_and_then (required as_str name) (as_object value)) []

abbrev pub display_name_or_empty : Data → DisplayName
display_name_or_empty value = record { lang = member_text_or_empty (codes "lang") value; text = member_text_or_empty (codes "text") value }

-- the parts of a mapping, whose lists are in the tree
abbrev pub tree_parts : BorrowedParts Value Value Value → Parts
tree_parts parts = borrowed_parts_of (λ uri. text_or_empty (view uri)) (λ region. region_in (view region)) (λ name. display_name_or_empty (view name)) parts

-- ---- patterns

-- the region of the names and texts of an object
abbrev pub members_region : Members → Region
members_region members = unwrap_or (option_map PatternRegion (pairs_of members)) UnreadableRegion

-- the value is a text, and a pattern takes it with the name
abbrev pub is_pattern_entry : String Global × Value → Bool
is_pattern_entry entry = unwrap_or (option_map (λ text. is_pattern_pair (string_bytes entry.0, text)) (as_str (view entry.1))) false

-- ---- what is of its kind tells what it means

or-Some : {Thing : Type 0} (found : Option Thing) (other thing : Thing) → found ≡ Some thing → unwrap_or found other ≡ thing
or-Some None other thing is = cc
or-Some (Some found) other thing is = cc

pub text_or_empty-is : (value : Data) (text : Text) → as_str value ≡ Some text → text_or_empty value ≡ text
text_or_empty-is value text is = or-Some (as_str value) [] text is

pub position_or_zeros-is : (value : Data) (position : ℤ × ℤ) → position_in value ≡ Some position → position_or_zeros value ≡ position
position_or_zeros-is value position is = or-Some (position_in value) (pos 0, pos 0) position is

pub region_in-is : (value : Data) (region : Region) → Some (region_in value) ≡ Some region → region_in value ≡ region
region_in-is value region is = cc

of_both : (lang text : Option Text) (name : DisplayName) → option_and_then (λ lang. option_map (λ text. record { lang = lang; text = text }) text) lang ≡ Some name
    → record { lang = unwrap_or lang []; text = unwrap_or text [] } ≡ name
of_both None text name is = cc
of_both (Some lang) None name is = cc
of_both (Some lang) (Some text) name is = cc

of_object : (members : Option Members) (name : DisplayName) → option_and_then display_name_of_members members ≡ Some name
    → record { lang = unwrap_or (option_and_then (required as_str (codes "lang")) members) []; text = unwrap_or (option_and_then (required as_str (codes "text")) members) [] } ≡ name
of_object None name is = cc
of_object (Some members) name is = of_both (required as_str (codes "lang") members) (required as_str (codes "text") members) name is

pub display_name_or_empty-is : (value : Data) (name : DisplayName) → display_name_in value ≡ Some name → display_name_or_empty value ≡ name
display_name_or_empty-is value name is = of_object (as_object value) name is
