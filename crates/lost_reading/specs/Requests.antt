-- Request lines: which trees are requests. (RFC 5222, sections 8 to 12; own format.)
use Rattle.std.specs.Prelude.{Bool, true, false, if◌then◌else◌, not, ◌&&◌, ◌||◌, List, [], map, length, Option, Some, None, option_map, option_and_then, unwrap_or, nat_le, codes}
use Rattle.serde_json.specs.Data.{Data, Members}
use Rattle.serde_json.specs.Find.{as_bool, as_str, as_object}
use Rattle.lost_spec.specs.declared.places.PlaceKind.{PlaceKind}
use Rattle.lost_spec.specs.declared.places.PlaceKind.TheVariants.{Geodetic2d, Civic, XToken}
use Rattle.lost_spec.specs.Place.{kind_of, has_system, Body, PointBody, AddressBody, TokenBody, UnreadableBody}
use Rattle.lost_spec.specs.Text.{Text, same_text, has_repeat, is_between}
use Rattle.lost_spec.specs.Request.{Location, Request, FindService, ListServicesByLocation, ListServices, GetServiceBoundary}
use Rattle.lost_reading.specs.Members.{tree_of, the_member, required, optional, defaulting, list_in, service_in, position_in, pairs_in, only_member}

-- ---- locations (RFC 5222, section 12)

-- the content of a location of `geodetic-2d`: `pos`, a position
abbrev pub point_body : Option Data → Body
point_body pos = unwrap_or (option_map (λ position. PointBody position.0 position.1) (option_and_then position_in pos)) UnreadableBody

-- the content of a location of `civic`: `address`, an object whose values are texts
abbrev pub address_body : Option Data → Body
address_body address = unwrap_or (option_map AddressBody (option_and_then pairs_in address)) UnreadableBody

-- the content of a location of `x-token`: `token`, a text (own)
abbrev pub token_body : Option Data → Body
token_body token = unwrap_or (option_map TokenBody (option_and_then as_str token)) UnreadableBody

-- the content of a location of a kind, by the members that hold one
abbrev pub body_with : Option PlaceKind → (pos address token : Option Data) → Body
body_with None pos address token = UnreadableBody
body_with (Some Geodetic2d) pos address token = point_body pos
body_with (Some Civic) pos address token = address_body address
body_with (Some XToken) pos address token = token_body token

-- the content of a location of another profile is not looked at
abbrev pub body_in : Text → Members → Body
body_in profile members = body_with (kind_of profile) (the_member (codes "pos") members) (the_member (codes "address") members) (the_member (codes "token") members)

-- the reference system is the one that is known: absent, or this text (RFC 5222, section 12.2)
abbrev pub is_known_system : Option Data → Bool
is_known_system None = true
is_known_system (Some value) = unwrap_or (option_map (same_text (codes "urn:ogc:def:crs:EPSG::4326")) (as_str value)) false

-- it is looked at where locations of the kind have one
abbrev pub is_system_known : Option PlaceKind → Option Data → Bool
is_system_known kind srs_name = not (has_system kind) || is_known_system srs_name

abbrev pub srs_known_in : Text → Members → Bool
srs_known_in profile members = is_system_known (kind_of profile) (the_member (codes "srsName") members)

-- a location with this id and profile
abbrev pub location_with : Members → Text → Text → Location
location_with members id profile = record {
  id = id;
  profile = profile;
  srs_known = srs_known_in profile members;
  body = body_in profile members;
}

abbrev pub location_of_members : Members → Option Location
location_of_members members =
    option_and_then (λ id. option_map (location_with members id) (required as_str (codes "profile") members)) (required as_str (codes "id") members)

abbrev pub location_in : Data → Option Location
location_in value = option_and_then location_of_members (as_object value)

-- 1 to 8 locations, no two of one profile (RFC 5222, section 8.3.1; bounds own)
abbrev pub are_locations : List Location → Bool
are_locations locations = is_between 1 8 (length locations) && not (has_repeat (map (λ location. location.profile) locations))

abbrev pub if_locations : List Location → Option (List Location)
if_locations locations = if are_locations locations then Some locations else None

abbrev pub locations_in : Data → Option (List Location)
locations_in value = option_and_then if_locations (list_in location_in value)

-- ---- the other members

-- a path: at most 32 texts (RFC 5222, section 6; bound own)
abbrev pub if_path : List Text → Option (List Text)
if_path path = if nat_le (length path) 32 then Some path else None

abbrev pub path_kind : Data → Option (List Text)
path_kind value = option_and_then if_path (list_in as_str value)

abbrev pub path_in : Members → Option (List Text)
path_in members = defaulting path_kind [] (codes "path") members

-- whether boundaries are wanted by value: `value`, or `reference` (RFC 5222, section 8.3.4)
abbrev pub preference : Text → Option Bool
preference text =
    if same_text (codes "value") text then Some true else (if same_text (codes "reference") text then Some false else None)

abbrev pub by_value_kind : Data → Option Bool
by_value_kind value = option_and_then preference (as_str value)

-- ---- the four requests

-- findService (RFC 5222, section 8)
abbrev pub find_service_of : Members → Option Request
find_service_of members =
    option_and_then (λ service.
    option_and_then (λ locations.
    option_and_then (λ validate.
    option_and_then (λ by_value.
    option_map (λ path. FindService service locations validate by_value path)
    (path_in members))
    (defaulting by_value_kind false (codes "serviceBoundary") members))
    (defaulting as_bool false (codes "validateLocation") members))
    (required locations_in (codes "location") members))
    (required service_in (codes "service") members)

-- listServicesByLocation (RFC 5222, section 11)
abbrev pub services_at_of : Members → Option Request
services_at_of members =
    option_and_then (λ service.
    option_and_then (λ locations.
    option_map (λ path. ListServicesByLocation service locations path)
    (path_in members))
    (required locations_in (codes "location") members))
    (optional service_in (codes "service") members)

-- listServices (RFC 5222, section 10)
abbrev pub services_of : Members → Option Request
services_of members =
    option_and_then (λ service. option_map (λ path. ListServices service path) (path_in members)) (optional service_in (codes "service") members)

-- getServiceBoundary (RFC 5222, section 9)
abbrev pub boundary_of : Members → Option Request
boundary_of members =
    option_and_then (λ key. option_map (λ path. GetServiceBoundary key path) (path_in members)) (required as_str (codes "key") members)

-- the request of this name, by the members of its value
abbrev pub request_named : Text → Members → Option Request
request_named name members =
    if same_text (codes "findService") name then find_service_of members
    else (if same_text (codes "listServicesByLocation") name then services_at_of members
    else (if same_text (codes "listServices") name then services_of members
    else (if same_text (codes "getServiceBoundary") name then boundary_of members else None)))

-- an object with exactly one member, whose name is that of a request and whose value is an object
abbrev pub request_of_member : Text × Data → Option Request
request_of_member member = option_and_then (request_named member.0) (as_object member.1)

abbrev pub request_in : Data → Option Request
request_in value = option_and_then request_of_member (only_member value)

-- the request that a line spells
unfoldable pub line_request : Text → Option Request
line_request line = option_and_then request_in (tree_of line)
