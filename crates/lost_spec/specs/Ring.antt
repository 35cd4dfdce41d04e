-- Points and rings: exact ranges, the normal form, and when a point is inside a ring.
use Rattle.std.specs.Prelude.{ℕ, zero, suc, Bool, false, not, ◌&&◌, if◌then◌else◌, List, [], ◌∷◌, length, Option, ℤ, pos, neg_ℤ, ◌-ℤ◌, ◌*ℤ◌, int_lt, int_le, nat_lt, filter}
use Rattle.std.specs.Ordering.{int_eq}
use Rattle.lost_spec.specs.declared.faults.GeoError.{GeoError}
use Rattle.lost_spec.specs.declared.faults.GeoError.TheVariants.{Latitude, Longitude}
use Rattle.lost_spec.specs.declared.faults.RingError.{RingError}
use Rattle.lost_spec.specs.declared.faults.RingError.TheVariants.{TooShort, NotClosed, TooLong}
use Rattle.lost_spec.specs.Text.{first_fault}

-- a position: latitude and longitude in whole 1e-7 degrees (RFC 5222, section 12.2; unit own)
pub record Point : Type 0 where
  pub lat : ℤ
  pub lon : ℤ

abbrev pub same_point : Point → Point → Bool
same_point p q = int_eq p.lat q.lat && int_eq p.lon q.lon

-- the greatest latitude and longitude; the least are their negatives (own unit)
abbrev pub lat_limit : ℤ
lat_limit = pos 900_000_000

abbrev pub lon_limit : ℤ
lon_limit = pos 1_800_000_000

-- z lies from -limit to limit
abbrev pub is_within : ℤ → ℤ → Bool
is_within limit z = int_le (neg_ℤ limit) z && int_le z limit

-- the first refusal of a latitude and a longitude
abbrev pub point_fault : ℤ → ℤ → Option GeoError
point_fault lat lon = first_fault ((not (is_within lat_limit lat), Latitude) ∷ (not (is_within lon_limit lon), Longitude) ∷ [])

-- the normal form: the greatest longitude is taken at the least one, and the greatest latitude one unit below it (own)
abbrev pub normal : Point → Point
normal p = record {
  lat = if int_eq p.lat lat_limit then lat_limit -ℤ pos 1 else p.lat;
  lon = if int_eq p.lon lon_limit then neg_ℤ lon_limit else p.lon;
}

-- ---- rings

-- the last position of a list that begins with p
abbrev pub last_after : Point → List Point → Point
last_after p [] = p
last_after p (q ∷ rest) = last_after q rest

-- the list ends with the position that it begins with
abbrev pub is_closed : List Point → Bool
is_closed [] = false
is_closed (p ∷ rest) = same_point p (last_after p rest)

-- the first refusal of a ring (RFC 5222, section 12.2; greatest length and order own)
abbrev pub ring_fault : List Point → Option RingError
ring_fault ring =
    first_fault (
    (nat_lt (length ring) 4, TooShort)
    ∷ (not (is_closed ring), NotClosed)
    ∷ (nat_lt 4096 (length ring), TooLong) ∷ [])

-- an edge is two positions, one after the other
abbrev pub Edge : Type 0
Edge = Point × Point

-- the edges of a list of positions
abbrev pub edges : List Point → List Edge
edges [] = []
edges (p ∷ []) = []
edges (p ∷ q ∷ rest) = (p, q) ∷ edges (q ∷ rest)

-- the end of an edge with the lesser latitude, and the other end
abbrev pub low_end : Edge → Point
low_end e = if int_le e.0.lat e.1.lat then e.0 else e.1

abbrev pub high_end : Edge → Point
high_end e = if int_le e.0.lat e.1.lat then e.1 else e.0

-- the latitude of p lies from that of the low end up to before that of the high end (own: lower edges belong)
abbrev pub spans : Edge → Point → Bool
spans e p = int_le (low_end e).lat p.lat && int_lt p.lat (high_end e).lat

-- p is to the left of the line through the ends (own: left edges belong)
abbrev pub is_left : Edge → Point → Bool
is_left e p =
    let lo = low_end e in
    let hi = high_end e in
    int_lt ((p.lon -ℤ lo.lon) *ℤ (hi.lat -ℤ lo.lat)) ((hi.lon -ℤ lo.lon) *ℤ (p.lat -ℤ lo.lat))

-- the edge crosses at p: it is met by the way from p to the right (own)
abbrev pub crosses : Edge → Point → Bool
crosses e p = spans e p && is_left e p

-- a number is odd
abbrev pub is_odd : ℕ → Bool
is_odd zero = false
is_odd (suc n) = not (is_odd n)

-- how many of these edges cross at p
abbrev pub crossings : List Edge → Point → ℕ
crossings es p = length (filter (λ e. crosses e p) es)

-- a point is inside a ring: an odd number of edges cross at its normal form (own reading of RFC 5222, section 12.2)
abbrev pub inside : List Point → Point → Bool
inside ring p = is_odd (crossings (edges ring) (normal p))
