-- The bytes that stand for a mapping: all of it, each text and each list behind its length. (Own.)
use Rattle.std.specs.Prelude.{ℕ, Bool, true, false, List, [], ◌∷◌, ◌++◌, length, Option, Some, None, ℤ}
use Rattle.std.specs.Int.{w32, w64, to_be_bytes, cast_unsigned}
use Rattle.std.specs.List.{flat_map}
use Rattle.lost_spec.specs.Text.{Text}
use Rattle.lost_spec.specs.Ring.{Point}
use Rattle.lost_spec.specs.Service.{service_text}
use Rattle.lost_spec.specs.Mapping.{Mapping, Expires, NoCache, NoExpiration, At, DisplayName}

-- a count: 8 bytes, the greatest first
unfoldable pub count_bytes : ℕ → Text
count_bytes n = to_be_bytes w64 n

-- a coordinate: 4 bytes in two's complement, the greatest first
unfoldable pub coordinate_bytes : ℤ → Text
coordinate_bytes z = to_be_bytes w32 (cast_unsigned w32 z)

-- a text: how long it is, and its bytes
unfoldable pub text_bytes : Text → Text
text_bytes text = count_bytes (length text) ++ text

-- a list: how long it is, and its items
unfoldable pub list_bytes : {Item : Type 0} → (Item → Text) → List Item → Text
list_bytes item_bytes items = count_bytes (length items) ++ flat_map item_bytes items

abbrev pub texts_bytes : List Text → Text
texts_bytes texts = list_bytes text_bytes texts

-- a text that may be absent: 0, or 1 and the text
abbrev pub option_bytes : Option Text → Text
option_bytes None = 0 ∷ []
option_bytes (Some text) = 1 ∷ text_bytes text

abbrev pub bool_bytes : Bool → Text
bool_bytes false = 0 ∷ []
bool_bytes true = 1 ∷ []

-- when a mapping ceases to be live: 0 for NO-CACHE, 1 for NO-EXPIRATION, or 2 and the stamp's text
abbrev pub expires_bytes : Expires → Text
expires_bytes NoCache = 0 ∷ []
expires_bytes NoExpiration = 1 ∷ []
expires_bytes (At stamp) = 2 ∷ text_bytes stamp.text

-- a position: its latitude and its longitude
unfoldable pub point_bytes : Point → Text
point_bytes point = coordinate_bytes point.lat ++ coordinate_bytes point.lon

abbrev pub ring_bytes : List Point → Text
ring_bytes ring = list_bytes point_bytes ring

-- a pair of texts: a pattern's element and value, a display name's language and text
unfoldable pub pair_bytes : Text → Text → Text
pair_bytes first second = text_bytes first ++ text_bytes second

abbrev pub pattern_bytes : List (Text × Text) → Text
pattern_bytes pairs = list_bytes (λ pair. pair_bytes pair.0 pair.1) pairs

abbrev pub name_bytes : DisplayName → Text
name_bytes name = pair_bytes name.lang name.text

-- which mapping it is, and until when it holds
unfoldable pub head_bytes : Mapping → Text
head_bytes m = text_bytes m.source ++ text_bytes m.source_id ++ text_bytes m.stamp.text ++ expires_bytes m.expires

-- which service it is of, and how that is reached
unfoldable pub service_bytes : Mapping → Text
service_bytes m = text_bytes (service_text m.service) ++ texts_bytes m.uris ++ option_bytes m.number

-- where it holds
unfoldable pub regions_bytes : Mapping → Text
regions_bytes m = list_bytes ring_bytes m.regions.polygons ++ list_bytes pattern_bytes m.regions.patterns ++ list_bytes texts_bytes m.regions.token_sets

-- whether it is a default, how it is shown, and what names its regions
unfoldable pub rest_bytes : Mapping → Text
rest_bytes m = bool_bytes m.is_default ++ list_bytes name_bytes m.display_names ++ option_bytes m.key

-- a mapping
unfoldable pub mapping_bytes : Mapping → Text
mapping_bytes m = head_bytes m ++ service_bytes m ++ regions_bytes m ++ rest_bytes m
