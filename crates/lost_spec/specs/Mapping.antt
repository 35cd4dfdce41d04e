-- Mappings: what they carry, which parts make one, and when one is live.
use Rattle.std.specs.Prelude.{ℕ, ◌+◌, Bool, true, false, not, ◌&&◌, ◌||◌, if◌then◌else◌, List, [], ◌∷◌, map, length, Option, Some, None, is_none, Result, Ok, Err, is_err, nat_le, nat_lt, ◌==◌, take_while, codes}
use Rattle.std.specs.List.{list_all, list_any}
use Rattle.std.specs.Result.{result_unwrap_or}
use Rattle.lost_spec.specs.declared.faults.MappingError.{MappingError}
use Rattle.lost_spec.specs.declared.faults.MappingError.TheVariants.{BadSource, BadSourceId, BadStamp, BadExpires, BadService, BadUri, BadNumber, BadRegion, RegionMissing, TooLarge, BadKey}
use Rattle.lost_spec.specs.Text.{Text, same_text, lowered, has_repeat, is_between, is_letter, is_digit, first_is, first_fault}
use Rattle.lost_spec.specs.Service.{Service, label_fault, split_at_dots, read_service}
use Rattle.lost_spec.specs.Token.{is_id}
use Rattle.lost_spec.specs.Place.{Region, Regions, by_kind, is_region, are_too_many}
use Rattle.lost_spec.specs.Moment.{Instant, is_earlier, Stamp, stamp_of, is_stamp}

-- ---- texts of a mapping

-- a source, and a server's name: 1 to 253 bytes, labels joined by single dots, in any case (RFC 5222, section 5.1; spelling own)
unfoldable pub is_source : Text → Bool
is_source text = is_between 1 253 (length text) && list_all (λ label. is_none (label_fault label)) (split_at_dots (lowered text))

-- the scheme of a URI: what stands before its first colon (RFC 3986, section 3.1)
abbrev pub scheme_of : Text → Text
scheme_of uri = take_while (λ b. not (b == 58)) uri

-- a byte of a scheme after the first: a letter, a digit, `+`, `-` or `.` (RFC 3986, section 3.1)
abbrev pub is_scheme_byte : ℕ → Bool
is_scheme_byte b = is_letter b || is_digit b || (b == 43) || (b == 45) || (b == 46)

abbrev pub is_scheme : Text → Bool
is_scheme scheme = first_is is_letter scheme && list_all is_scheme_byte scheme

-- a URI: a scheme, a colon and at least one more byte; bytes 33 to 126, at most 2,048 of them (RFC 5222, section 5.8; bounds own)
unfoldable pub is_uri : Text → Bool
is_uri uri =
    is_scheme (scheme_of uri) && nat_lt (length (scheme_of uri) + 1) (length uri)
    && list_all (λ b. is_between 33 126 b) uri && nat_le (length uri) 2048

-- 1 to 16 URIs, no scheme twice ignoring ASCII case (RFC 5222, section 5.8; bounds own)
abbrev pub are_uris : List Text → Bool
are_uris uris = is_between 1 16 (length uris) && list_all is_uri uris && not (has_repeat (map (λ uri. lowered (scheme_of uri)) uris))

-- a byte of a service number: a digit, `*` or `#` (RFC 5222, section 5.7)
abbrev pub is_dial_byte : ℕ → Bool
is_dial_byte b = is_digit b || (b == 42) || (b == 35)

-- a service number, where there is one: 1 to 64 such bytes (RFC 5222, section 5.7; bounds own)
abbrev pub is_number : Option Text → Bool
is_number None = true
is_number (Some number) = is_between 1 64 (length number) && list_all is_dial_byte number

-- ---- parts

-- when a mapping ceases to be live (RFC 5222, section 5.2)
pub data Expires : Type 0 where
  NoCache : Expires
  NoExpiration : Expires
  At : (stamp : Stamp) → Expires

-- a display name: its language and its text (RFC 5222, section 5.3)
pub record DisplayName : Type 0 where
  pub lang : Text
  pub text : Text

-- what a map desk hands in for a mapping, as plain texts and lists (RFC 5222, section 5)
pub record Parts : Type 0 where
  pub source : Text
  pub source_id : Text
  pub last_updated : Text
  pub expires : Text
  pub service : Text
  pub uris : List Text
  pub number : Option Text
  pub regions : List Region
  pub is_default : Bool
  pub display_names : List DisplayName
  pub key : Option Text

-- a mapping (RFC 5222, section 5)
pub record Mapping : Type 0 where
  pub source : Text
  pub source_id : Text
  pub stamp : Stamp
  pub expires : Expires
  pub service : Service
  pub uris : List Text
  pub number : Option Text
  pub regions : Regions
  pub is_default : Bool
  pub display_names : List DisplayName
  pub key : Option Text

-- ---- which parts make a mapping

abbrev pub no_cache : Text
no_cache = codes "NO-CACHE"

abbrev pub no_expiration : Text
no_expiration = codes "NO-EXPIRATION"

-- one of the two words, or a stamp (RFC 5222, section 5.2)
abbrev pub is_expires : Text → Bool
is_expires text = same_text text no_cache || same_text text no_expiration || is_stamp text

abbrev pub expires_of : Text → Expires
expires_of text = if same_text text no_cache then NoCache else (if same_text text no_expiration then NoExpiration else At (stamp_of text))

-- a default has no region, and any other mapping has one (own)
abbrev pub has_right_regions : Bool → List Region → Bool
has_right_regions true regions = length regions == 0
has_right_regions false regions = nat_lt 0 (length regions)

-- too many regions of a kind, over 16 display names, or one with a text of over 1,024 bytes (own)
abbrev pub is_too_large : Parts → Bool
is_too_large parts =
    are_too_many (by_kind parts.regions)
    || nat_lt 16 (length parts.display_names)
    || list_any (λ name. nat_lt 1024 (length name.lang) || nat_lt 1024 (length name.text)) parts.display_names

-- a default has no key, and any other mapping has one (RFC 5222, section 5.6; own)
abbrev pub has_right_key : Bool → Option Text → Bool
has_right_key true None = true
has_right_key true (Some key) = false
has_right_key false None = false
has_right_key false (Some key) = is_id key

-- the first refusal of parts (own order)
unfoldable pub parts_fault : Parts → Option MappingError
parts_fault parts =
    first_fault (
    (not (is_source parts.source), BadSource)
    ∷ (not (is_id parts.source_id), BadSourceId)
    ∷ (not (is_stamp parts.last_updated), BadStamp)
    ∷ (not (is_expires parts.expires), BadExpires)
    ∷ (is_err (read_service parts.service), BadService)
    ∷ (not (are_uris parts.uris), BadUri)
    ∷ (not (is_number parts.number), BadNumber)
    ∷ (not (list_all is_region parts.regions), BadRegion)
    ∷ (not (has_right_regions parts.is_default parts.regions), RegionMissing)
    ∷ (is_too_large parts, TooLarge)
    ∷ (not (has_right_key parts.is_default parts.key), BadKey) ∷ [])

-- the mapping of parts that are not refused: the source and the service in lower case, all else as given
unfoldable pub mapping_of : Parts → Mapping
mapping_of parts = record {
  source = lowered parts.source;
  source_id = parts.source_id;
  stamp = stamp_of parts.last_updated;
  expires = expires_of parts.expires;
  service = result_unwrap_or (read_service parts.service) [];
  uris = parts.uris;
  number = parts.number;
  regions = by_kind parts.regions;
  is_default = parts.is_default;
  display_names = parts.display_names;
  key = parts.key;
}

abbrev pub mapping_or : Option MappingError → Mapping → Result Mapping MappingError
mapping_or None m = Ok m
mapping_or (Some fault) m = Err fault

-- the mapping that parts make, or their first refusal
abbrev pub build : Parts → Result Mapping MappingError
build parts = mapping_or (parts_fault parts) (mapping_of parts)

-- ---- when a mapping is live

-- it has one of the two words, or an instant after t (RFC 5222, section 5.2; own)
abbrev pub is_unexpired : Expires → Instant → Bool
is_unexpired NoCache t = true
is_unexpired NoExpiration t = true
is_unexpired (At stamp) t = is_earlier t stamp.moment

abbrev pub is_live : Mapping → Instant → Bool
is_live m t = is_unexpired m.expires t
