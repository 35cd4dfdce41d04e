-- The things that the worked rows speak of: rings, mappings, edits, requests and replies, each written out.
use Rattle.std.specs.Prelude.{ℕ, true, false, List, [], ◌∷◌, ◌++◌, map, Option, Some, None, ℤ, pos, negsuc, codes}
use Rattle.lost_spec.specs.declared.answers.Warning.{Warning}
use Rattle.lost_spec.specs.Token.{is_id}
use Rattle.lost_spec.specs.Place.{Region, Regions, no_regions, point_of, Body, PointBody, AddressBody, TokenBody}
use Rattle.lost_spec.specs.Text.{Text}
use Rattle.lost_spec.specs.Service.{Service, read_service}
use Rattle.lost_spec.specs.Ring.{Point}
use Rattle.lost_spec.specs.Civic.{Pairs}
use Rattle.lost_spec.specs.Moment.{Instant, Stamp, is_stamp, moment_of}
use Rattle.lost_spec.specs.Mapping.{Parts, Mapping, NoExpiration, is_source, is_uri, parts_fault, mapping_of}
use Rattle.lost_spec.specs.Book.{Limits, Edit, book_of}
use Rattle.lost_spec.specs.Find.{found, is_implemented}
use Rattle.lost_spec.specs.Validation.{validation}
use Rattle.lost_spec.specs.Services.{services, all_services, by_key}
use Rattle.lost_spec.specs.Request.{Location, Request, FindService, ListServicesByLocation, ByReference, ByValue, NoBoundary, ShownMapping, Reply, FindServiceResponse}
use Rattle.lost_spec.specs.Answer.{answer}
use Rattle.std.specs.Str.{chars, is_utf8}
use lib.Utf8.{encode}

-- opens all that a row computes with
unfoldable pub all_words : Unit {0}
unfolding read_service is_stamp moment_of is_source is_id is_uri parts_fault mapping_of found is_implemented validation services all_services by_key answer chars is_utf8 encode
all_words = tt

-- ---- places and times

-- the positions of a square, closed
abbrev pub square : ℤ → ℤ → ℤ → ℤ → List (ℤ × ℤ)
square a b c d = (a, b) ∷ (a, d) ∷ (c, d) ∷ (c, b) ∷ (a, b) ∷ []

abbrev pub points : List (ℤ × ℤ) → List Point
points positions = map point_of positions

abbrev pub december : Text → ℤ → Stamp
december text day = record { text = text; moment = record { day = day; nanosecond = 0 } }

-- 1 to 4 December 2025, with their day numbers
abbrev pub first_day : Stamp
first_day = december (codes "2025-12-01T00:00:00Z") (pos 20_423)

abbrev pub second_day : Stamp
second_day = december (codes "2025-12-02T00:00:00Z") (pos 20_424)

abbrev pub third_day : Stamp
third_day = december (codes "2025-12-03T00:00:00Z") (pos 20_425)

abbrev pub fourth_day : Stamp
fourth_day = december (codes "2025-12-04T00:00:00Z") (pos 20_426)

abbrev pub fifth_day : Stamp
fifth_day = december (codes "2025-12-05T00:00:00Z") (pos 20_427)

-- 1 January 2026, the moment of every row
abbrev pub now : Instant
now = record { day = pos 20_454; nanosecond = 0 }

-- ---- names

abbrev pub server : Text
server = codes "lost.example"

abbrev pub desk : Text
desk = codes "map.example"

abbrev pub sos : Service
sos = codes "sos" ∷ []

abbrev pub police : Service
police = codes "sos" ∷ codes "police" ∷ []

abbrev pub key_of : Text → Text
key_of x = x ++ codes "-1"

abbrev pub uri_of : Text → Text
uri_of x = codes "sip:" ++ (x ++ codes "@map.example")

-- ---- mappings

-- what a desk hands in for the mapping X: a service as text, and its regions
abbrev pub parts_of : Text → Text → List Region → Parts
parts_of x service regions = record {
  source = desk;
  source_id = x;
  last_updated = codes "2025-12-01T00:00:00Z";
  expires = codes "NO-EXPIRATION";
  service = service;
  uris = uri_of x ∷ [];
  number = None;
  regions = regions;
  is_default = false;
  display_names = [];
  key = Some (key_of x);
}

-- polygons and patterns
abbrev pub regions_with : List (List Point) → List Pairs → Regions
regions_with polygons patterns = record { polygons = polygons; patterns = patterns; token_sets = [] }

-- the mapping X with its polygons and patterns
abbrev pub mapping_with : Text → Service → List (List Point) → List Pairs → Mapping
mapping_with x service polygons patterns = record {
  source = desk;
  source_id = x;
  stamp = first_day;
  expires = NoExpiration;
  service = service;
  uris = uri_of x ∷ [];
  number = None;
  regions = regions_with polygons patterns;
  is_default = false;
  display_names = [];
  key = Some (key_of x);
}

-- the mapping X with one ring
abbrev pub mapping_on : Text → Service → List (ℤ × ℤ) → Mapping
mapping_on x service ring = mapping_with x service (points ring ∷ []) []

-- a mapping with another stamp and key and with one ring, as a replacement has them
abbrev pub renewed : Mapping → Stamp → Text → List (ℤ × ℤ) → Mapping
renewed m stamp key ring = record m { stamp = stamp; regions = regions_with (points ring ∷ []) []; key = Some key }

-- the mappings A, B and C, each with its ring, and D with that of A
abbrev pub ring_a : List (ℤ × ℤ)
ring_a = square (pos 0) (pos 0) (pos 10_000_000) (pos 10_000_000)

abbrev pub mapping_a : Mapping
mapping_a = mapping_on (codes "A") police ring_a

abbrev pub ring_b : List (ℤ × ℤ)
ring_b = square (pos 0) (pos 10_000_000) (pos 10_000_000) (pos 20_000_000)

abbrev pub mapping_b : Mapping
mapping_b = mapping_on (codes "B") police ring_b

abbrev pub ring_c : List (ℤ × ℤ)
ring_c = square (negsuc 4_999_999) (negsuc 4_999_999) (pos 15_000_000) (pos 25_000_000)

abbrev pub mapping_c : Mapping
mapping_c = mapping_on (codes "C") sos ring_c

abbrev pub mapping_d : Mapping
mapping_d = mapping_on (codes "D") police ring_a

-- rings of the world, of a far square, and of a wide one
abbrev pub world_ring : List (ℤ × ℤ)
world_ring = square (negsuc 899_999_999) (negsuc 1_799_999_999) (pos 900_000_000) (pos 1_800_000_000)

abbrev pub far_ring : List (ℤ × ℤ)
far_ring = square (pos 50_000_000) (pos 50_000_000) (pos 60_000_000) (pos 60_000_000)

abbrev pub wide_ring : List (ℤ × ℤ)
wide_ring = square (pos 0) (pos 0) (pos 60_000_000) (pos 60_000_000)

-- the default T of service sos
abbrev pub mapping_t : Mapping
mapping_t = record mapping_a { source_id = codes "T"; service = sos; uris = uri_of (codes "T") ∷ []; regions = no_regions; is_default = true; key = None }

-- the patterns of the civic row
abbrev pub wide_pattern : Pairs
wide_pattern = (codes "A1", codes "NJ") ∷ (codes "A3", codes "Leonia") ∷ (codes "country", codes "US") ∷ []

abbrev pub house_pattern : Pairs
house_pattern = (codes "A1", codes "NJ") ∷ (codes "A3", codes "Leonia") ∷ (codes "HNO", codes "5") ∷ (codes "PC", codes "07605") ∷ (codes "country", codes "US") ∷ []

abbrev pub mapping_g : Mapping
mapping_g = mapping_with (codes "G") police [] (wide_pattern ∷ house_pattern ∷ [])

-- the address of the civic row, with a postal code
abbrev pub address_with : Text → Pairs
address_with code =
    (codes "A1", codes "NJ") ∷ (codes "A3", codes " leonia ") ∷ (codes "FLR", codes "2")
    ∷ (codes "HNO", codes "6") ∷ (codes "PC", code) ∷ (codes "country", codes "US") ∷ []

-- ---- edits and answers

-- the limits of a server
abbrev pub usual_limits : Limits
usual_limits = record { mappings = 65_536; edits = 4_294_967_295; traces = 65_536 }

-- the answer to a request over the book of these edits, now
abbrev pub ask : List Edit → Request → Reply
ask es request = answer (book_of usual_limits es) server now request

-- ---- requests

abbrev pub geodetic : Text
geodetic = codes "geodetic-2d"

abbrev pub civic : Text
civic = codes "civic"

abbrev pub x_token : Text
x_token = codes "x-token"

abbrev pub location_at : Text → Text → Body → Location
location_at id profile body = record { id = id; profile = profile; srs_known = true; body = body }

-- the location p at a point, at an address, and at a token
abbrev pub at_point : ℤ → ℤ → Location
at_point lat lon = location_at (codes "p") geodetic (PointBody lat lon)

abbrev pub at_address : Pairs → Location
at_address pairs = location_at (codes "p") civic (AddressBody pairs)

abbrev pub at_token : Text → Location
at_token token = location_at (codes "p") x_token (TokenBody token)

-- findService for a service and locations, with no options
abbrev pub find_at : Service → List Location → Request
find_at service locations = FindService service locations false false []

-- findService at a point
abbrev pub query : Service → ℤ → ℤ → Request
query service lat lon = find_at service (at_point lat lon ∷ [])

-- listServicesByLocation at a point
abbrev pub services_at : Option Service → ℤ → ℤ → Request
services_at service lat lon = ListServicesByLocation service (at_point lat lon ∷ []) []

-- ---- replies

abbrev pub own_path : List Text
own_path = server ∷ []

-- a mapping as it is shown by reference, by its key
abbrev pub by_reference : Text → Mapping → ShownMapping
by_reference key m = record { mapping = m; boundary = ByReference key desk }

abbrev pub by_polygons : List (List Point) → Mapping → ShownMapping
by_polygons polygons m = record { mapping = m; boundary = ByValue (regions_with polygons []) }

abbrev pub as_default : Mapping → ShownMapping
as_default m = record { mapping = m; boundary = NoBoundary }

abbrev pub shown_a : ShownMapping
shown_a = by_reference (codes "A-1") mapping_a

abbrev pub shown_b : ShownMapping
shown_b = by_reference (codes "B-1") mapping_b

abbrev pub shown_c : ShownMapping
shown_c = by_reference (codes "C-1") mapping_c

abbrev pub shown_d : ShownMapping
shown_d = by_reference (codes "D-1") mapping_d

-- findServiceResponse for the location p, with warnings
abbrev pub found_with : ℕ → List ShownMapping → List Warning → Reply
found_with edition ms warnings = FindServiceResponse edition (codes "p") None ms own_path warnings

abbrev pub found_reply : ℕ → List ShownMapping → Reply
found_reply edition ms = found_with edition ms []

-- findServiceResponse for an address that was validated
abbrev pub validated : ℕ → List ShownMapping → List Text → List Text → List Text → Reply
validated edition ms invalid unchecked valid =
    FindServiceResponse edition (codes "p") (Some (record { invalid = invalid; unchecked = unchecked; valid = valid })) ms own_path []
