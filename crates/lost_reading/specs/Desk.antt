-- Desk lines: edits, commits, and the refusals of what is neither. (Own format.)
use Rattle.std.specs.Prelude.{ℕ, Bool, false, if◌then◌else◌, ◌||◌, List, [], Option, Some, None, is_some, option_map, option_and_then, unwrap_or, Result, Ok, Err, codes}
use Rattle.serde_json.specs.Data.{Data, Members}
use Rattle.serde_json.specs.Find.{as_bool, as_str, as_object}
use Rattle.lost_spec.specs.declared.faults.MappingError.{MappingError}
use Rattle.lost_spec.specs.declared.faults.MappingError.TheVariants.{BadStamp}
use Rattle.lost_spec.specs.declared.places.PlaceKind.{PlaceKind}
use Rattle.lost_spec.specs.declared.places.PlaceKind.TheVariants.{Geodetic2d, Civic, XToken}
use Rattle.lost_spec.specs.Place.{kind_of, Region, RingRegion, PatternRegion, TokenRegion, UnreadableRegion}
use Rattle.lost_spec.specs.Codes.{mapping_code}
use Rattle.lost_spec.specs.Text.{Text, same_text, lowered}
use Rattle.lost_spec.specs.Moment.{is_stamp, stamp_of}
use Rattle.lost_spec.specs.Mapping.{DisplayName, Parts, Mapping, parts_fault, mapping_of}
use Rattle.lost_spec.specs.Book.{Edit, Publish, Replace, Withdraw}
use Rattle.lost_mapping.specs.Identity.{identity_fault}
use Rattle.lost_reading.specs.declared.desk.DeskFault.{DeskFault}
use Rattle.lost_reading.specs.declared.desk.DeskFault.TheVariants.{BadLine, Mapping as MappingFault}
use Rattle.lost_reading.specs.Members.{tree_of, the_member, required, optional, defaulting, list_in, position_in, pairs_in, only_member}

-- what a desk line orders: an edit to stage, or a commit
pub data Order : Type 0 where
  Stage : (edit : Edit) → Order
  Commit : Order

-- ---- regions and display names (RFC 5222, sections 5.3 and 5.5)

abbrev pub ring_region : Option Data → Region
ring_region polygon = unwrap_or (option_map RingRegion (option_and_then (list_in position_in) polygon)) UnreadableRegion

abbrev pub pattern_region : Option Data → Region
pattern_region pattern = unwrap_or (option_map PatternRegion (option_and_then pairs_in pattern)) UnreadableRegion

-- a list of texts (own)
abbrev pub token_region : Option Data → Region
token_region tokens = unwrap_or (option_map TokenRegion (option_and_then (list_in as_str) tokens)) UnreadableRegion

-- a region of a kind, and of this profile
abbrev pub region_of_kind : Option PlaceKind → Members → Region
region_of_kind None _ = UnreadableRegion
region_of_kind (Some Geodetic2d) members = ring_region (the_member (codes "polygon") members)
region_of_kind (Some Civic) members = pattern_region (the_member (codes "pattern") members)
region_of_kind (Some XToken) members = token_region (the_member (codes "tokens") members)

abbrev pub region_with : Members → Text → Region
region_with members profile = region_of_kind (kind_of profile) members

abbrev pub region_of_members : Members → Region
region_of_members members = unwrap_or (option_map (region_with members) (required as_str (codes "profile") members)) UnreadableRegion

-- what is no region is an unreadable one
abbrev pub region_in : Data → Region
region_in value = unwrap_or (option_map region_of_members (as_object value)) UnreadableRegion

abbrev pub regions_kind : Data → Option (List Region)
regions_kind value = list_in (λ region. Some (region_in region)) value

abbrev pub display_name_of_members : Members → Option DisplayName
display_name_of_members members =
    option_and_then (λ lang. option_map (λ text. record { lang = lang; text = text }) (required as_str (codes "text") members)) (required as_str (codes "lang") members)

abbrev pub display_name_in : Data → Option DisplayName
display_name_in value = option_and_then display_name_of_members (as_object value)

-- ---- mappings (RFC 5222, section 5)

-- the parts of a mapping; nothing where a required member is missing or a member is of another kind
-- the parts of a mapping whose five required texts are known
abbrev pub parts_with_texts : Text → Text → Text → Text → Text → Members → Option Parts
parts_with_texts source source_id last_updated expires service members =
    option_and_then (λ uris.
    option_and_then (λ number.
    option_and_then (λ regions.
    option_and_then (λ is_default.
    option_and_then (λ display_names.
    option_map (λ key. record {
      source = source;
      source_id = source_id;
      last_updated = last_updated;
      expires = expires;
      service = service;
      uris = uris;
      number = number;
      regions = regions;
      is_default = is_default;
      display_names = display_names;
      key = key;
    })
    (optional as_str (codes "key") members))
    (defaulting (list_in display_name_in) [] (codes "displayName") members))
    (defaulting as_bool false (codes "default") members))
    (defaulting regions_kind [] (codes "serviceBoundary") members))
    (optional as_str (codes "serviceNumber") members))
    (required (list_in as_str) (codes "uri") members)

abbrev pub parts_of_members : Members → Option Parts
parts_of_members members =
    option_and_then (λ source.
    option_and_then (λ source_id.
    option_and_then (λ last_updated.
    option_and_then (λ expires.
    option_and_then (λ service. parts_with_texts source source_id last_updated expires service members)
    (required as_str (codes "service") members))
    (required as_str (codes "expires") members))
    (required as_str (codes "lastUpdated") members))
    (required as_str (codes "sourceId") members))
    (required as_str (codes "source") members)

-- an order, or the refusal of what it was made of
abbrev pub unless_fault : Option MappingError → Order → Result Order DeskFault
unless_fault None order = Ok order
unless_fault (Some fault) order = Err (MappingFault fault)

-- the edit that a mapping is for, or the first refusal of its parts
abbrev pub mapping_order : (Mapping → Edit) → Option Parts → Result Order DeskFault
mapping_order edit None = Err BadLine
mapping_order edit (Some parts) = unless_fault (parts_fault parts) (Stage (edit (mapping_of parts)))

-- ---- withdrawals

-- the first refusal of a source, a sourceId and a stamp
abbrev pub withdrawal_fault : Text → Text → Text → Option MappingError
withdrawal_fault source source_id last_updated =
    if is_some (identity_fault source source_id) then identity_fault source source_id
    else (if is_stamp last_updated then None else Some BadStamp)

abbrev pub withdrawal : Text → Text → Text → Result Order DeskFault
withdrawal source source_id last_updated =
    unless_fault (withdrawal_fault source source_id last_updated)
    (Stage (Withdraw (record { source = lowered source; source_id = source_id }) (stamp_of last_updated)))

abbrev pub withdrawal_of_members : Members → Option (Result Order DeskFault)
withdrawal_of_members members =
    option_and_then (λ source.
    option_and_then (λ source_id.
    option_map (withdrawal source source_id)
    (required as_str (codes "lastUpdated") members))
    (required as_str (codes "sourceId") members))
    (required as_str (codes "source") members)

abbrev pub withdrawal_order : Members → Result Order DeskFault
withdrawal_order members = unwrap_or (withdrawal_of_members members) (Err BadLine)

-- ---- desk lines

abbrev pub is_desk_name : Text → Bool
is_desk_name name = same_text (codes "publish") name || same_text (codes "replace") name || same_text (codes "withdraw") name || same_text (codes "commit") name

-- the order of this name, by the members of its value
abbrev pub order_named : Text → Members → Result Order DeskFault
order_named name members =
    if same_text (codes "publish") name then mapping_order Publish (parts_of_members members)
    else (if same_text (codes "replace") name then mapping_order Replace (parts_of_members members)
    else (if same_text (codes "withdraw") name then withdrawal_order members else Ok Commit))

-- a value that is no object is a bad line
abbrev pub order_of_member : Text × Data → Option (Result Order DeskFault)
order_of_member member =
    if is_desk_name member.0 then Some (unwrap_or (option_map (order_named member.0) (as_object member.1)) (Err BadLine)) else None

-- an object with exactly one member, whose name is that of a desk line
abbrev pub order_in : Data → Option (Result Order DeskFault)
order_in value = option_and_then order_of_member (only_member value)

-- what a desk line orders, or its refusal; nothing where the line is no desk line
unfoldable pub desk_line : Text → Option (Result Order DeskFault)
desk_line line = option_and_then order_in (tree_of line)

-- the number of a refusal
abbrev pub desk_fault_code : DeskFault → ℕ
desk_fault_code BadLine = 1
desk_fault_code (MappingFault fault) = mapping_code fault
