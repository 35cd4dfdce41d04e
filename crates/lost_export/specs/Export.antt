-- The map as desk lines: a publish of each mapping, and one commit. (Own format.)
use Rattle.std.specs.Prelude.{Bool, true, false, List, [], ◌∷◌, ◌++◌, Option, Some, None, option_map, flat_map, codes}
use Rattle.serde_json.specs.Data.{Data, boolean, string, object, Members, no_members, member}
use Rattle.serde_json.specs.Written.{compact_text}
use Rattle.lost_spec.specs.Text.{Text}
use Rattle.lost_spec.specs.Service.{service_text}
use Rattle.lost_spec.specs.Place.{Regions}
use Rattle.lost_spec.specs.Moment.{Stamp}
use Rattle.lost_spec.specs.Mapping.{Mapping}
use Rattle.lost_spec.specs.Book.{Identity}
pub use Rattle.lost_writing.specs.Replies.{one_member, line_of, member_if, list_data, texts_data, position_data, polygon_data, put_pairs, pattern_data, token_set_data, regions_data, expires_text, display_name_data, display_names_data}

-- the mark of a default, left out where there is none (own)
abbrev pub default_data : Bool → Option Data
default_data true = Some (boolean true)
default_data false = None

-- the regions, left out for a default, which has none (RFC 5222, section 5.5)
abbrev pub boundary_data : Bool → Regions → Option Data
boundary_data true regions = None
boundary_data false regions = Some (regions_data regions)

-- a mapping as a desk hands it in, by the members from `service` on (RFC 5222, section 5)
abbrev pub members_from_service : Mapping → Members
members_from_service m =
    member (codes "service") (string (service_text m.service))
    (member_if (codes "serviceBoundary") (boundary_data m.is_default m.regions)
    (member_if (codes "serviceNumber") (option_map string m.number)
    (member (codes "source") (string m.source)
    (member (codes "sourceId") (string m.source_id)
    (member (codes "uri") (texts_data m.uris) no_members)))))

-- all its members, in ascending order of their names (RFC 5222, section 5)
abbrev pub publish_members : Mapping → Members
publish_members m =
    member_if (codes "default") (default_data m.is_default)
    (member_if (codes "displayName") (display_names_data m.display_names)
    (member (codes "expires") (string (expires_text m.expires))
    (member_if (codes "key") (option_map string m.key)
    (member (codes "lastUpdated") (string m.stamp.text) (members_from_service m)))))

-- a desk line that publishes a mapping
abbrev pub publish_data : Mapping → Data
publish_data m = one_member (codes "publish") (object (publish_members m))

-- the text of that line, without the byte 10 at its end
unfoldable pub publish_json : Mapping → Text
publish_json m = compact_text (publish_data m)

-- the line of a publish, with its byte 10
abbrev pub publish_text : Mapping → Text
publish_text m = publish_json m ++ 10 ∷ []

-- a desk line that withdraws an identity at a stamp (RFC 5222, section 5.1; members own, in ascending order of their names)
abbrev pub withdraw_data : Identity → Stamp → Data
withdraw_data identity stamp =
    one_member (codes "withdraw") (object
    (member (codes "lastUpdated") (string stamp.text)
    (member (codes "source") (string identity.source)
    (member (codes "sourceId") (string identity.source_id) no_members))))

-- the text of that line, without the byte 10 at its end
unfoldable pub withdraw_json : Identity → Stamp → Text
withdraw_json identity stamp = compact_text (withdraw_data identity stamp)

-- the line of a withdrawal, with its byte 10
abbrev pub withdraw_text : Identity → Stamp → Text
withdraw_text identity stamp = withdraw_json identity stamp ++ 10 ∷ []

-- a desk line that commits, and that line with its byte 10
abbrev pub commit_json : Text
commit_json = codes "{\"commit\":{}}"

abbrev pub commit_text : Text
commit_text = commit_json ++ 10 ∷ []

-- the lines of a map: a publish of each mapping, in their order, and one commit
unfoldable pub map_text : List Mapping → Text
map_text ms = flat_map publish_text ms ++ commit_text
