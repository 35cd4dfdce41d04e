-- Where mappings hold, and where requests ask: the kinds of places, each with its profile, what a location of it has, and its regions.
use Rattle.std.specs.Prelude.{Bool, true, false, ◌&&◌, ◌||◌, if◌then◌else◌, List, [], ◌∷◌, map, length, Option, Some, None, is_none, ℤ, nat_lt, filter_map, codes}
use Rattle.std.specs.List.{list_all, list_any, find}
use lib.Pointwise.{pointwise}
use Rattle.lost_spec.specs.declared.places.PlaceKind.{PlaceKind}
use Rattle.lost_spec.specs.declared.places.PlaceKind.TheVariants.{Geodetic2d, Civic, XToken}
use Rattle.lost_spec.specs.Text.{Text, same_text, same_texts}
use Rattle.lost_spec.specs.Ring.{Point, same_point, point_fault, ring_fault, inside}
use Rattle.lost_spec.specs.Civic.{Pairs, address_fault, pattern_fault, matches}
use Rattle.lost_spec.specs.Token.{is_token, is_token_set, contains_token}

-- ---- kinds

-- the name of a kind's profile (RFC 5222, section 12.1; tokens own)
abbrev pub profile_of : PlaceKind → Text
profile_of Geodetic2d = codes "geodetic-2d"
profile_of Civic = codes "civic"
profile_of XToken = codes "x-token"

-- the kind of place that a profile names
abbrev pub kind_of : Text → Option PlaceKind
kind_of profile = find (λ kind. same_text profile (profile_of kind)) (Geodetic2d ∷ Civic ∷ XToken ∷ [])

-- a location of this kind has a reference system (RFC 5222, section 12.2)
abbrev pub has_system : Option PlaceKind → Bool
has_system None = false
has_system (Some Geodetic2d) = true
has_system (Some Civic) = false
has_system (Some XToken) = false

-- ---- places

-- what a location of a request holds (RFC 5222, section 12; tokens own): a latitude and a longitude, the pairs of an address, a token, or what could not be read
pub data Body : Type 0 where
  PointBody : (lat lon : ℤ) → Body
  AddressBody : (pairs : Pairs) → Body
  TokenBody : (token : Text) → Body
  UnreadableBody : Body

-- where a request asks (RFC 5222, section 12; tokens own): a point, a civic address, or a token
pub data Place : Type 0 where
  AtPoint : (point : Point) → Place
  AtAddress : (address : Pairs) → Place
  AtToken : (token : Text) → Place

-- the point of a latitude and a longitude, the address of pairs, and the place of a token, where they are not refused
abbrev pub point_place : ℤ → ℤ → Option Place
point_place lat lon = if is_none (point_fault lat lon) then Some (AtPoint (record { lat = lat; lon = lon })) else None

abbrev pub address_place : Pairs → Option Place
address_place pairs = if is_none (address_fault pairs) then Some (AtAddress pairs) else None

abbrev pub token_place : Text → Option Place
token_place token = if is_token token then Some (AtToken token) else None

-- the place of a body of a known kind; a body of another kind is none
abbrev pub place_of : PlaceKind → Body → Option Place
place_of Geodetic2d (PointBody lat lon) = point_place lat lon
place_of Geodetic2d (AddressBody pairs) = None
place_of Geodetic2d (TokenBody token) = None
place_of Geodetic2d UnreadableBody = None
place_of Civic (PointBody lat lon) = None
place_of Civic (AddressBody pairs) = address_place pairs
place_of Civic (TokenBody token) = None
place_of Civic UnreadableBody = None
place_of XToken (PointBody lat lon) = None
place_of XToken (AddressBody pairs) = None
place_of XToken (TokenBody token) = token_place token
place_of XToken UnreadableBody = None

-- the place of a body, if its kind is known
abbrev pub place_in : Option PlaceKind → Body → Option Place
place_in None body = None
place_in (Some kind) body = place_of kind body

abbrev pub kind_at : Place → PlaceKind
kind_at (AtPoint point) = Geodetic2d
kind_at (AtAddress address) = Civic
kind_at (AtToken token) = XToken

-- the address that a place is, if it is one
abbrev pub address_at : Place → Option Pairs
address_at (AtPoint point) = None
address_at (AtAddress address) = Some address
address_at (AtToken token) = None

-- ---- regions

-- a region as it is handed in (RFC 5222, section 5.5; tokens own): positions, pairs, tokens, or what could not be read
pub data Region : Type 0 where
  RingRegion : (positions : List (ℤ × ℤ)) → Region
  PatternRegion : (pairs : Pairs) → Region
  TokenRegion : (tokens : List Text) → Region
  UnreadableRegion : Region

-- the regions of a mapping, each kind in the order given (RFC 5222, section 5.5; tokens own)
pub record Regions : Type 0 where
  pub polygons : List (List Point)
  pub patterns : List Pairs
  pub token_sets : List (List Text)

abbrev pub no_regions : Regions
no_regions = record { polygons = []; patterns = []; token_sets = [] }

abbrev pub point_of : ℤ × ℤ → Point
point_of position = record { lat = position.0; lon = position.1 }

-- each position is a point, and together they are a ring
abbrev pub is_ring : List (ℤ × ℤ) → Bool
is_ring positions = list_all (λ position. is_none (point_fault position.0 position.1)) positions && is_none (ring_fault (map point_of positions))

-- a region that can be read, and is not refused
abbrev pub is_region : Region → Bool
is_region (RingRegion positions) = is_ring positions
is_region (PatternRegion pairs) = is_none (pattern_fault pairs)
is_region (TokenRegion tokens) = is_token_set tokens
is_region UnreadableRegion = false

-- the polygon of a region, its pattern, and its token set, where it is one
abbrev pub polygon_of : Region → Option (List Point)
polygon_of (RingRegion positions) = Some (map point_of positions)
polygon_of (PatternRegion pairs) = None
polygon_of (TokenRegion tokens) = None
polygon_of UnreadableRegion = None

abbrev pub pattern_of : Region → Option Pairs
pattern_of (RingRegion positions) = None
pattern_of (PatternRegion pairs) = Some pairs
pattern_of (TokenRegion tokens) = None
pattern_of UnreadableRegion = None

abbrev pub token_set_of : Region → Option (List Text)
token_set_of (RingRegion positions) = None
token_set_of (PatternRegion pairs) = None
token_set_of (TokenRegion tokens) = Some tokens
token_set_of UnreadableRegion = None

-- the regions that were handed in, by kind
abbrev pub by_kind : List Region → Regions
by_kind regions = record {
  polygons = filter_map polygon_of regions;
  patterns = filter_map pattern_of regions;
  token_sets = filter_map token_set_of regions;
}

-- over 64 polygons, over 256 patterns, or over 64 token sets (own)
abbrev pub are_too_many : Regions → Bool
are_too_many r = nat_lt 64 (length r.polygons) || nat_lt 256 (length r.patterns) || nat_lt 64 (length r.token_sets)

-- some polygon has the point inside, some pattern matches the address, or some set contains the token (RFC 5222, section 12.1; tokens own)
abbrev pub contains : Regions → Place → Bool
contains r (AtPoint point) = list_any (λ ring. inside ring point) r.polygons
contains r (AtAddress address) = list_any (λ pattern. matches pattern address) r.patterns
contains r (AtToken token) = list_any (λ tokens. contains_token tokens token) r.token_sets

-- regions are the same: polygons by positions, patterns by names and values, and token sets by tokens, all as given
abbrev pub same_pairs : Pairs → Pairs → Bool
same_pairs xs ys = pointwise (λ x y. same_text x.0 y.0 && same_text x.1 y.1) xs ys

abbrev pub same_regions : Regions → Regions → Bool
same_regions r s =
    pointwise (λ x y. pointwise same_point x y) r.polygons s.polygons
    && (pointwise same_pairs r.patterns s.patterns && pointwise same_texts r.token_sets s.token_sets)

-- the regions of one kind alone
abbrev pub of_kind : PlaceKind → Regions → Regions
of_kind Geodetic2d r = record { polygons = r.polygons; patterns = []; token_sets = [] }
of_kind Civic r = record { polygons = []; patterns = r.patterns; token_sets = [] }
of_kind XToken r = record { polygons = []; patterns = []; token_sets = r.token_sets }
