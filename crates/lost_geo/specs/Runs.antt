-- The runs of a ring's edges, each with the bounds of its positions (own).
use Rattle.std.specs.Prelude.{◌≡◌, ℕ, ◌+◌, ◌<◌, ◌≤◌, Bool, ◌&&◌, List, [], ◌∷◌, length, take, drop, ℤ, int_le, int_lt}
use Rattle.lost_spec.specs.Ring.{Point}
use Rattle.lost_geo.specs.declared.bounds.Bounds.{Bounds}
use Rattle.lost_geo.specs.Bounds.{bounds_of}

-- how many edges a run has; the last one may have fewer
unfoldable pub edges_of_a_run : ℕ
edges_of_a_run = 16

-- the latitude lies from the run's least one up to before its greatest one
abbrev pub is_spanned : Bounds → ℤ → Bool
is_spanned run lat = int_le run.lat_min lat && int_lt lat run.lat_max

-- the bounds between two corners, which have the least and the greatest latitude and longitude
abbrev pub between : Point → Point → Bounds
between low high = record {
  lat_min = low.lat;
  lat_max = high.lat;
  lon_min = low.lon;
  lon_max = high.lon;
}

-- what a long ring keeps of its runs of `size` edges each, one after the other, until no edge is left: the two corners of each
abbrev pub AreCornersOf : ℕ → List Point → List Point → Type 0
AreCornersOf size [] ring = length ring ≤ 1
AreCornersOf size (low ∷ []) ring = length ring ≤ 1
AreCornersOf size (low ∷ high ∷ corners) ring = (1 < length ring) × (between low high ≡ bounds_of (take (size + 1) ring)) × AreCornersOf size corners (drop size ring)

-- a long ring's list: so many positions, and behind them the corners of their runs
pub record IsLongRing (len : ℕ) (places : List Point) : Type 0 where
  pub within : len ≤ length places
  pub behind : AreCornersOf edges_of_a_run (drop len places) (take len places)
