-- A value at the front of a text, as compact JSON, and what it is read as. (Own.)
use Rattle.std.specs.Prelude.{◌≡◌, ℕ, suc, ◌≤◌, ◌++◌, List, [], ◌∷◌, true, false, Option, None, Some, codes}
use Rattle.std.specs.Option.{option_copied}
use Rattle.json.specs.Json as json
use Rattle.json.specs.Json.{Json}
use Rattle.json.specs.Print.{print, print_from}
use Rattle.json.specs.Tree.{json_tokens, members_tokens, depth, members_depth, HasNumbers, MembersHaveNumbers}
use Rattle.serde_json.specs.Data.{Data, Items, array, Members, no_members}
use Rattle.serde_json.specs.Read.{of_json, of_members}
use Rattle.lost_spec.specs.Text.{Text}
use Rattle.lost_spec.specs.Place.{Region}
use Rattle.lost_spec.specs.Mapping.{Parts, Mapping, parts_fault, mapping_of}
use Rattle.lost_reading.specs.Members.{each_of}
use Rattle.lost_reading.specs.Desk.{region_in, parts_of_members}
use Rattle.lost_tape.specs.declared.compact_desk.Head.{Head}
use Rattle.lost_tape.specs.declared.compact_desk.Tail.{Tail}

-- a value that nests so deep at most, and its tree
pub record HasTree (deep : ℕ) (value : Json) (tree : Data) : Type 0 where
  pub numbers : HasNumbers value
  pub shallow : depth value ≤ deep
  pub reads : of_json value ≡ Some tree

-- a text begins with a value in print, and goes on with the rest
pub record IsValueBefore (deep : ℕ) (text : Text) (tree : Data) (rest : Text) : Type 0 where
  pub value : Json
  pub begins : text ≡ print (json_tokens value) ++ rest
  pub has : HasTree deep value tree

-- a text begins with a value of a kind
pub record IsPartBefore {Seen : Type 0} (deep : ℕ) (kind : Data → Option Seen) (text : Text) (seen : Seen) (rest : Text) : Type 0 where
  pub tree : Data
  pub before : IsValueBefore deep text tree rest
  pub means : kind tree ≡ Some seen

-- a text begins with an array of values of a kind
pub record IsListBefore {Seen : Type 0} (deep : ℕ) (kind : Data → Option Seen) (text : Text) (seen : List Seen) (rest : Text) : Type 0 where
  pub items : Items
  pub before : IsValueBefore (suc deep) text (array items) rest
  pub means : each_of kind items ≡ Some seen

-- texts under names, in the order of a line
abbrev pub named_texts : List (Text × Text) → json.Members
named_texts [] = json.no_members
named_texts (pair ∷ pairs) = json.member pair.0 (json.string pair.1) (named_texts pairs)

-- a text begins with texts under names and the bracket that closes their object
pub record AreNamedBefore (text : Text) (members : Members) (rest : Text) : Type 0 where
  pub pairs : List (Text × Text)
  pub begins : text ≡ print_from false (members_tokens (named_texts pairs)) ++ rest
  pub reads : of_members (named_texts pairs) no_members ≡ Some members

-- what stands before the positions of a ring
unfoldable pub before_polygon : Text
before_polygon = codes "{\"polygon\":"

-- what stands behind them
unfoldable pub after_polygon : Text
after_polygon = codes ",\"profile\":\"geodetic-2d\"}"

-- what stands before the names and texts of a pattern, and behind them
unfoldable pub before_pattern : Text
before_pattern = codes "{\"pattern\":{"

unfoldable pub after_pattern : Text
after_pattern = codes ",\"profile\":\"civic\"}"

-- the kind of a region
abbrev pub region_kind : Data → Option Region
region_kind value = Some (region_in value)

-- ---- a line that publishes or replaces a mapping

-- the members before the regions, and those behind them
abbrev pub with_head : Head → json.Members → json.Members
with_head head rest =
    json.member (codes "expires") (json.string head.expires.now) (
    json.member (codes "key") (json.string head.key.now) (
    json.member (codes "lastUpdated") (json.string head.last_updated.now) (
    json.member (codes "service") (json.string head.service.now) rest)))

-- the number to dial, where there is one
abbrev pub with_number : Option Text → json.Members → json.Members
with_number None rest = rest
with_number (Some number) rest = json.member (codes "serviceNumber") (json.string number) rest

abbrev pub with_tail : Tail → json.Members → json.Members
with_tail tail rest =
    with_number (option_copied tail.number) (
    json.member (codes "source") (json.string tail.source.now) (
    json.member (codes "sourceId") (json.string tail.source_id.now) rest))

-- a text is these members behind others, and the bracket that closes their object, and goes on with the rest
abbrev pub AreMembersBehind : Text → json.Members → Text → Type 0
AreMembersBehind text members rest = text ≡ print_from true (members_tokens members) ++ rest

-- a text is these members, and the bracket that closes their object, and goes on with the rest
abbrev pub AreMembersFirst : Text → json.Members → Text → Type 0
AreMembersFirst text members rest = text ≡ print_from false (members_tokens members) ++ rest

-- the parts of a mapping with this number and these members alone
abbrev pub parts_numbered : Head → List Region → Tail → List Text → Option Text → Parts
parts_numbered head regions tail uris number = record {
  source = tail.source.now;
  source_id = tail.source_id.now;
  last_updated = head.last_updated.now;
  expires = head.expires.now;
  service = head.service.now;
  uris = uris;
  number = number;
  regions = regions;
  is_default = false;
  display_names = [];
  key = Some head.key.now;
}

-- the parts of a mapping with these members alone
abbrev pub compact_parts : Head → List Region → Tail → List Text → Parts
compact_parts head regions tail uris = parts_numbered head regions tail uris (option_copied tail.number)

-- the mapping of parts that are not refused
abbrev pub IsMappingOf : Parts → Mapping → Type 0
IsMappingOf parts mapping = (parts_fault parts ≡ None) × (mapping ≡ mapping_of parts)

-- a text is the members of a mapping, and the brackets that close its object and the line's
pub record IsMappingText (text : Text) (mapping : Mapping) : Type 0 where
  pub members : json.Members
  pub begins : AreMembersFirst text members (125 ∷ [])
  pub numbers : MembersHaveNumbers members
  pub shallow : members_depth members ≤ 4
  pub tree : Members
  pub reads : of_members members no_members ≡ Some tree
  pub parts : Parts
  pub means : parts_of_members tree ≡ Some parts
  pub is_mapping : IsMappingOf parts mapping
