-- The bounds of a ring: the least and the greatest of its latitudes and longitudes (own).
use Rattle.std.specs.Prelude.{◌≡◌, Bool, ◌&&◌, List, [], ◌∷◌, None, ℤ, pos, neg_ℤ, int_le, ◌≤ℤ◌, map, fold, All, Contains}
use Rattle.std.specs.Int.{int_min, int_max}
use Rattle.lost_spec.specs.Ring.{Point, lat_limit, lon_limit, ring_fault}
use Rattle.lost_geo.specs.declared.bounds.Bounds.{Bounds}

-- the latitudes, and the longitudes, of a list of positions
abbrev pub lats : List Point → List ℤ
lats ring = map (λ p. p.lat) ring

abbrev pub lons : List Point → List ℤ
lons ring = map (λ p. p.lon) ring

-- the least, and the greatest, of a list of numbers; 0 where there is none
abbrev pub least : List ℤ → ℤ
least [] = pos 0
least (z ∷ zs) = fold int_min z zs

abbrev pub greatest : List ℤ → ℤ
greatest [] = pos 0
greatest (z ∷ zs) = fold int_max z zs

-- the bounds of a list of positions
abbrev pub bounds_of : List Point → Bounds
bounds_of ring = record {
  lat_min = least (lats ring);
  lat_max = greatest (lats ring);
  lon_min = least (lons ring);
  lon_max = greatest (lons ring);
}

-- z stands in the list, and no number of the list is below it, or above it
abbrev pub IsLeast : ℤ → List ℤ → Type 0
IsLeast z zs = Contains zs z × All (λ y. z ≤ℤ y) zs

abbrev pub IsGreatest : ℤ → List ℤ → Type 0
IsGreatest z zs = Contains zs z × All (λ y. y ≤ℤ z) zs

-- each bound is reached by a position, and no position is beyond it
pub record AreExact (bounds : Bounds) (ring : List Point) : Type 0 where
  pub lat_min : IsLeast bounds.lat_min (lats ring)
  pub lat_max : IsGreatest bounds.lat_max (lats ring)
  pub lon_min : IsLeast bounds.lon_min (lons ring)
  pub lon_max : IsGreatest bounds.lon_max (lons ring)

-- z lies from low to high, both included
abbrev pub is_from_to : ℤ → ℤ → ℤ → Bool
is_from_to low high z = int_le low z && int_le z high

-- the point is within the bounds, the four bounds included
abbrev pub is_within_bounds : Bounds → Point → Bool
is_within_bounds bounds p = is_from_to bounds.lat_min bounds.lat_max p.lat && is_from_to bounds.lon_min bounds.lon_max p.lon

-- the bounds are in order, and within the ranges of latitude and longitude
pub record AreInRange (bounds : Bounds) : Type 0 where
  pub lat_low : neg_ℤ lat_limit ≤ℤ bounds.lat_min
  pub lat_order : bounds.lat_min ≤ℤ bounds.lat_max
  pub lat_high : bounds.lat_max ≤ℤ lat_limit
  pub lon_low : neg_ℤ lon_limit ≤ℤ bounds.lon_min
  pub lon_order : bounds.lon_min ≤ℤ bounds.lon_max
  pub lon_high : bounds.lon_max ≤ℤ lon_limit

-- what a polygon keeps: a ring, and its bounds
pub record IsRingWith (ring : List Point) (bounds : Bounds) : Type 0 where
  pub is_ring : ring_fault ring ≡ None
  pub exact : bounds ≡ bounds_of ring
  pub in_range : AreInRange bounds
