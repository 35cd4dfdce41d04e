-- Rows of our own at the bounds: what lies just within each of them, and what lies just past it.
use Rattle.std.specs.Prelude.{◌≡◌, ℕ, true, false, List, [], ◌∷◌, ◌++◌, map, Some, None, Ok, Err, pos, negsuc, replicate, codes}
use Rattle.std.specs.List.{list_all, list_any}
use Rattle.lost_spec.specs.declared.faults.UrnError.TheVariants.{BadCharacter, TooManyLabels}
use Rattle.lost_spec.specs.declared.faults.GeoError.TheVariants.{Latitude, Longitude}
use Rattle.lost_spec.specs.declared.faults.CivicError.TheVariants.{Repeated, TooLong as CivicTooLong}
use Rattle.lost_spec.specs.declared.faults.MappingError.TheVariants.{TooLarge}
use Rattle.lost_spec.specs.Token.{is_id}
use Rattle.lost_spec.specs.Place.{Region, RingRegion, PatternRegion}
use Rattle.lost_spec.specs.Text.{Text}
use Rattle.lost_spec.specs.Service.{read_service}
use Rattle.lost_spec.specs.Ring.{Point, point_fault, ring_fault, normal}
use Rattle.lost_spec.specs.Civic.{Pairs, address_fault, pattern_fault}
use Rattle.lost_spec.specs.Moment.{Instant, is_earlier, Stamp, read_stamp, is_stamp}
use Rattle.lost_spec.specs.Mapping.{DisplayName, is_source, is_uri, are_uris, is_number, parts_fault}
use Rattle.lost_spec.specs.Validation.{ordered_names}
use Rattle.lost_spec.specs.Examples.{ring_a}
use Rattle.lost_spec.specs.Rows.{parts_a, english}
use Rattle.lost_spec.specs.OwnRows.{pair}

-- ---- stamps and instants

-- midnight of a day of 2026, and a nanosecond of 1 January 2026
abbrev pub new_year : Text → ℕ → Stamp
new_year text nanosecond = record { text = text; moment = record { day = pos 20_454; nanosecond = nanosecond } }

-- absent digits of a fraction are zeros; it has one to nine digits
abbrev pub StampFractions : Type 0
StampFractions =
    (read_stamp (codes "2026-01-01T00:00:00.5Z") ≡ Some (new_year (codes "2026-01-01T00:00:00.5Z") 500_000_000))
    × (read_stamp (codes "2026-01-01T01:02:03.000000007Z") ≡ Some (new_year (codes "2026-01-01T01:02:03.000000007Z") 3_723_000_000_007))
    × (read_stamp (codes "2026-01-01T00:00:00.0000000000Z") ≡ None)
    × (read_stamp (codes "2026-01-01T00:00:00.Z") ≡ None)
    × (read_stamp (codes "2026-01-01T00:00:00.5") ≡ None)

-- the last hour, minute and second, month, day and year, and those past them; which years are leap years
abbrev pub StampBounds : Type 0
StampBounds =
    (list_all is_stamp (
    codes "9999-12-31T23:59:59Z" ∷ codes "0001-01-01T00:00:00Z" ∷ codes "2026-10-31T00:00:00Z"
    ∷ codes "2026-11-30T00:00:00Z" ∷ codes "2000-02-29T00:00:00Z" ∷ []) ≡ true)
    × (list_any is_stamp (
    codes "2026-01-01T24:00:00Z" ∷ codes "2026-01-01T00:60:00Z" ∷ codes "2026-13-01T00:00:00Z"
    ∷ codes "2026-00-01T00:00:00Z" ∷ codes "2026-01-00T00:00:00Z" ∷ codes "2026-01-32T00:00:00Z"
    ∷ codes "2026-11-31T00:00:00Z" ∷ codes "2100-02-29T00:00:00Z" ∷ codes "2026-01-01t00:00:00Z" ∷ []) ≡ false)

abbrev pub on_day : ℕ → ℕ → Instant
on_day day nanosecond = record { day = pos day; nanosecond = nanosecond }

-- the day decides, and the nanosecond only within a day
abbrev pub DayOrder : Type 0
DayOrder =
    (is_earlier (on_day 1 5) (on_day 2 3) ≡ true)
    × (is_earlier (on_day 2 3) (on_day 1 5) ≡ false)
    × (is_earlier (on_day 1 3) (on_day 1 5) ≡ true)
    × (is_earlier (on_day 1 5) (on_day 1 3) ≡ false)
    × (is_earlier (on_day 1 5) (on_day 1 5) ≡ false)
    × (is_earlier (record { day = negsuc 1; nanosecond = 0 }) (record { day = negsuc 0; nanosecond = 0 }) ≡ true)

-- ---- services

-- digits stand in labels, and the bytes beside letters and digits do not; there are 8 labels at most
abbrev pub ServiceBounds : Type 0
ServiceBounds =
    (read_service (codes "urn:service:az-09") ≡ Ok (codes "az-09" ∷ []))
    × (read_service (codes "urn:service:a/b") ≡ Err BadCharacter)
    × (read_service (codes "urn:service:a:b") ≡ Err BadCharacter)
    × (read_service (codes "urn:service:a`b") ≡ Err BadCharacter)
    × (read_service (codes "urn:service:a{b") ≡ Err BadCharacter)
    × (read_service (codes "urn:service:a.a.a.a.a.a.a.a") ≡ Ok (replicate 8 (codes "a")))
    × (read_service (codes "urn:service:a.a.a.a.a.a.a.a.a") ≡ Err TooManyLabels)

-- ---- texts of a mapping

abbrev pub letters : ℕ → Text
letters n = replicate n 97

-- the longest source and a longer one, ids and numbers at their bounds, and which bytes they have
abbrev pub TextBounds : Type 0
TextBounds =
    let three : Text = letters 63 ++ codes "." ++ letters 63 ++ codes "." ++ letters 63 ++ codes "." in
    (is_source (three ++ letters 61) ≡ true)
    × (is_source (three ++ letters 62) ≡ false)
    × (is_source (letters 64) ≡ false)
    × (is_source (codes "a_b") ≡ false)
    × (is_source [] ≡ false)
    × (is_id (letters 128) ≡ true)
    × (is_id (letters 129) ≡ false)
    × (is_id [] ≡ false)
    × (is_id (32 ∷ 126 ∷ 195 ∷ 137 ∷ []) ≡ true)
    × (is_id (31 ∷ []) ≡ false)
    × (is_id (127 ∷ []) ≡ false)
    × (is_id (195 ∷ []) ≡ false)
    × (is_number (Some (codes "*0#9")) ≡ true)
    × (is_number (Some (codes "+1")) ≡ false)
    × (is_number (Some (replicate 64 48)) ≡ true)
    × (is_number (Some (replicate 65 48)) ≡ false)

-- 16 URIs, each of another scheme
abbrev pub sixteen : List Text
sixteen =
    codes "a:1" ∷ codes "b:1" ∷ codes "c:1" ∷ codes "d:1" ∷ codes "e:1" ∷ codes "f:1" ∷ codes "g:1" ∷ codes "h:1"
    ∷ codes "i:1" ∷ codes "j:1" ∷ codes "k:1" ∷ codes "l:1" ∷ codes "m:1" ∷ codes "n:1" ∷ codes "o:1" ∷ codes "p:1" ∷ []

-- which texts are URIs, the longest, and how many there are
abbrev pub UriBounds : Type 0
UriBounds =
    (list_all is_uri (codes "Z:a" ∷ codes "z+9-A.:!~" ∷ (codes "sip:" ++ letters 2044) ∷ []) ≡ true)
    × (list_any is_uri (
    codes "9z:a" ∷ codes "a_b:c" ∷ codes ":a" ∷ codes "sip" ∷ codes "sip:" ∷ codes "sip:a b"
    ∷ (codes "sip:" ++ 127 ∷ []) ∷ (codes "sip:" ++ letters 2045) ∷ []) ≡ false)
    × (are_uris sixteen ≡ true)
    × (are_uris (codes "q:1" ∷ sixteen) ≡ false)

-- ---- places and regions

abbrev pub at_lat : ℕ → Point
at_lat lat = record { lat = pos lat; lon = pos 0 }

-- the last latitudes and longitudes, the pole one unit below itself, and the longest ring
abbrev pub PlaceBounds : Type 0
PlaceBounds =
    (point_fault (negsuc 900_000_000) (pos 0) ≡ Some Latitude)
    × (point_fault (pos 0) (pos 1_800_000_001) ≡ Some Longitude)
    × (point_fault (negsuc 899_999_999) (pos 1_800_000_000) ≡ None)
    × (normal (at_lat 900_000_000) ≡ at_lat 899_999_999)
    × (normal (at_lat 899_999_999) ≡ at_lat 899_999_999)
    × (normal (record { lat = negsuc 899_999_999; lon = pos 1_800_000_000 }) ≡ record { lat = negsuc 899_999_999; lon = negsuc 1_799_999_999 })
    × (ring_fault (replicate 4096 (at_lat 0)) ≡ None)

-- names and values of 512 bytes and of one more; 128 pairs, of which the next refusal comes, and one more
abbrev pub PairBounds : Type 0
PairBounds =
    (address_fault ((letters 512, letters 512) ∷ pair (codes "A1") ∷ []) ≡ None)
    × (address_fault ((letters 513, codes "1") ∷ pair (codes "A1") ∷ []) ≡ Some CivicTooLong)
    × (address_fault ((codes "A1", letters 513) ∷ []) ≡ Some CivicTooLong)
    × (address_fault (replicate 128 (pair (codes "A1"))) ≡ Some Repeated)
    × (address_fault (replicate 129 (pair (codes "A1"))) ≡ Some CivicTooLong)
    × (pattern_fault ((codes "A1", letters 512) ∷ []) ≡ None)
    × (pattern_fault ((codes "A1", letters 513) ∷ []) ≡ Some CivicTooLong)
    × (pattern_fault (replicate 128 (pair (codes "A1"))) ≡ Some Repeated)
    × (pattern_fault (replicate 129 (pair (codes "A1"))) ≡ Some CivicTooLong)

-- as many polygons, patterns and display names, and as long texts of these, as parts may have, and one more
abbrev pub PartsBounds : Type 0
PartsBounds =
    let ring : Region = RingRegion ring_a in
    let pattern : Region = PatternRegion (pair (codes "A1") ∷ []) in
    let called : Text → Text → DisplayName = λ lang text. record { lang = lang; text = text } in
    (parts_fault (record parts_a { regions = replicate 64 ring }) ≡ None)
    × (parts_fault (record parts_a { regions = replicate 65 ring }) ≡ Some TooLarge)
    × (parts_fault (record parts_a { regions = ring ∷ replicate 256 pattern }) ≡ None)
    × (parts_fault (record parts_a { regions = replicate 257 pattern }) ≡ Some TooLarge)
    × (parts_fault (record parts_a { display_names = replicate 16 english }) ≡ None)
    × (parts_fault (record parts_a { display_names = replicate 17 english }) ≡ Some TooLarge)
    × (parts_fault (record parts_a { display_names = called (letters 1024) (letters 1024) ∷ [] }) ≡ None)
    × (parts_fault (record parts_a { display_names = called (letters 1025) [] ∷ [] }) ≡ Some TooLarge)
    × (parts_fault (record parts_a { display_names = called [] (letters 1025) ∷ [] }) ≡ Some TooLarge)

-- ---- civic names

-- names without values that matter
abbrev pub named : List Text → Pairs
named names = map pair names

-- every civic name, as the standards spell it, in the order of bytes with one that is no civic name; and those names in the elements' order
abbrev pub CivicNames : Type 0
CivicNames =
    ordered_names (named (
    codes "A1" ∷ codes "A2" ∷ codes "A3" ∷ codes "A4" ∷ codes "A5" ∷ codes "A6" ∷ codes "ADDCODE" ∷ codes "B" ∷ codes "BLD" ∷ codes "FLR"
    ∷ codes "HNO" ∷ codes "HNS" ∷ codes "LMK" ∷ codes "LOC" ∷ codes "NAM" ∷ codes "PC" ∷ codes "PCN" ∷ codes "PLC" ∷ codes "POBOX" ∷ codes "POD"
    ∷ codes "POM" ∷ codes "PRD" ∷ codes "PRM" ∷ codes "RD" ∷ codes "RDBR" ∷ codes "RDSEC" ∷ codes "RDSUBBR" ∷ codes "ROOM" ∷ codes "SEAT"
    ∷ codes "STS" ∷ codes "UNIT" ∷ codes "country" ∷ []))
    ≡ codes "country" ∷ codes "A1" ∷ codes "A2" ∷ codes "A3" ∷ codes "A4" ∷ codes "A5" ∷ codes "A6"
    ∷ codes "PRM" ∷ codes "PRD" ∷ codes "RD" ∷ codes "STS" ∷ codes "POD" ∷ codes "POM" ∷ codes "RDSEC" ∷ codes "RDBR" ∷ codes "RDSUBBR"
    ∷ codes "HNO" ∷ codes "HNS" ∷ codes "LMK" ∷ codes "LOC" ∷ codes "FLR"
    ∷ codes "NAM" ∷ codes "PC" ∷ codes "BLD" ∷ codes "UNIT" ∷ codes "ROOM" ∷ codes "SEAT" ∷ codes "PLC" ∷ codes "PCN" ∷ codes "POBOX" ∷ codes "ADDCODE"
    ∷ codes "B" ∷ []
