-- A mapping as replies show it: its tree, and its text where its boundary is shown by reference. (RFC 5222, section 8.4.1; own format.)
use Rattle.std.specs.Prelude.{if◌then◌else◌, List, [], ◌∷◌, ◌++◌, map, Option, Some, None, option_map, codes}
use Rattle.serde_json.specs.Data.{Data, number, string, array, object, Members, no_members, member, put}
use Rattle.serde_json.specs.Find.{of_integer}
use Rattle.serde_json.specs.View.{items_of}
use Rattle.serde_json.specs.Written.{compact_text}
use Rattle.lost_spec.specs.Text.{Text}
use Rattle.lost_spec.specs.Service.{service_text}
use Rattle.lost_spec.specs.Ring.{Point}
use Rattle.lost_spec.specs.Civic.{Pairs}
use Rattle.lost_spec.specs.Place.{Regions}
use Rattle.lost_spec.specs.Mapping.{Expires, NoCache, NoExpiration, At, DisplayName, Mapping}
use Rattle.lost_spec.specs.Request.{Boundary, ByReference, ByValue, NoBoundary, ShownMapping}
use Rattle.lost_spec.specs.Answer.{reference_of}

-- ---- pieces

-- a list of things, each written in one way
abbrev pub list_data : {Thing : Type 0} → (Thing → Data) → List Thing → Data
list_data written things = array (items_of (map written things))

-- a list of texts
abbrev pub texts_data : List Text → Data
texts_data texts = list_data string texts

-- a member that stands before others where it is there
abbrev pub member_if : Text → Option Data → Members → Members
member_if name None rest = rest
member_if name (Some value) rest = member name value rest

-- ---- regions (RFC 5222, section 5.5; tokens own)

abbrev pub position_data : Point → Data
position_data point = list_data (λ coordinate. number (of_integer coordinate)) (point.lat ∷ point.lon ∷ [])

abbrev pub polygon_data : List Point → Data
polygon_data polygon =
    object (member (codes "polygon") (list_data position_data polygon) (member (codes "profile") (string (codes "geodetic-2d")) no_members))

-- the members of pairs, put in one after another, in ascending byte order of their names
abbrev pub put_pairs : Members → Pairs → Members
put_pairs members [] = members
put_pairs members (pair ∷ pairs) = put_pairs (put pair.0 (string pair.1) members) pairs

abbrev pub pattern_data : Pairs → Data
pattern_data pattern =
    object (member (codes "pattern") (object (put_pairs no_members pattern)) (member (codes "profile") (string (codes "civic")) no_members))

-- a token set, its tokens as given (own)
abbrev pub token_set_data : List Text → Data
token_set_data tokens =
    object (member (codes "profile") (string (codes "x-token")) (member (codes "tokens") (texts_data tokens) no_members))

-- regions: polygons, then patterns, then token sets, each kind as given
abbrev pub regions_data : Regions → Data
regions_data regions =
    array (items_of (map polygon_data regions.polygons ++ (map pattern_data regions.patterns ++ map token_set_data regions.token_sets)))

-- ---- mappings (RFC 5222, section 8.4.1)

abbrev pub expires_text : Expires → Text
expires_text NoCache = codes "NO-CACHE"
expires_text NoExpiration = codes "NO-EXPIRATION"
expires_text (At stamp) = stamp.text

abbrev pub display_name_data : DisplayName → Data
display_name_data name = object (member (codes "lang") (string name.lang) (member (codes "text") (string name.text) no_members))

-- display names, left out where there are none
abbrev pub display_names_data : List DisplayName → Option Data
display_names_data [] = None
display_names_data (name ∷ names) = Some (list_data display_name_data (name ∷ names))

-- the boundary by value, where it is shown so
abbrev pub value_data : Boundary → Option Data
value_data (ByReference key source) = None
value_data (ByValue regions) = Some (regions_data regions)
value_data NoBoundary = None

-- the boundary by reference, where it is shown so
abbrev pub reference_data : Boundary → Option Data
reference_data (ByReference key source) = Some (object (member (codes "key") (string key) (member (codes "source") (string source) no_members)))
reference_data (ByValue regions) = None
reference_data NoBoundary = None

-- a mapping with this boundary
abbrev pub mapping_data : Boundary → Mapping → Data
mapping_data boundary m =
    object (member_if (codes "displayName") (display_names_data m.display_names)
    (member (codes "expires") (string (expires_text m.expires))
    (member (codes "lastUpdated") (string m.stamp.text)
    (member (codes "service") (string (service_text m.service))
    (member_if (codes "serviceBoundary") (value_data boundary)
    (member_if (codes "serviceBoundaryReference") (reference_data boundary)
    (member_if (codes "serviceNumber") (option_map string m.number)
    (member (codes "source") (string m.source)
    (member (codes "sourceId") (string m.source_id)
    (member (codes "uri") (texts_data m.uris) no_members))))))))))

abbrev pub shown_data : ShownMapping → Data
shown_data shown = mapping_data shown.boundary shown.mapping

-- ---- mappings by reference (RFC 5222, section 5.6)

-- a mapping with its boundary by reference, and with none where it is a default
abbrev pub shown_by_reference : Mapping → ShownMapping
shown_by_reference m = record { mapping = m; boundary = if m.is_default then NoBoundary else reference_of m.key m.source }

-- the compact text of a mapping that is shown so
unfoldable pub reference_text : Mapping → Text
reference_text m = compact_text (shown_data (shown_by_reference m))
