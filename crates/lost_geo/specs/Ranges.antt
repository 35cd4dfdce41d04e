-- The ranges of latitudes and longitudes, as facts.
use Rattle.std.specs.Prelude.{ℤ, neg_ℤ, ◌≤ℤ◌}
use Rattle.lost_spec.specs.Ring.{Point, lat_limit, lon_limit}

-- the number is within the range of latitudes, or of longitudes (own unit)
pub record IsLat (z : ℤ) : Type 0 where
  pub low : neg_ℤ lat_limit ≤ℤ z
  pub high : z ≤ℤ lat_limit

pub record IsLon (z : ℤ) : Type 0 where
  pub low : neg_ℤ lon_limit ≤ℤ z
  pub high : z ≤ℤ lon_limit

-- the point's latitude and longitude are within their ranges
pub record IsInRange (p : Point) : Type 0 where
  pub lat : IsLat p.lat
  pub lon : IsLon p.lon
