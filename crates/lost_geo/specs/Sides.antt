-- On which side of a line a point is, and how far apart two points are.
use Rattle.std.specs.Prelude.{Bool, ℤ, pos, neg_ℤ, ◌-ℤ◌, ◌*ℤ◌, ◌≤ℤ◌, int_lt}
use Rattle.lost_spec.specs.Ring.{Point}

-- p is to the left of the line from `lo` to `hi`
abbrev pub is_left_of : Point → Point → Point → Bool
is_left_of lo hi p = int_lt ((p.lon -ℤ lo.lon) *ℤ (hi.lat -ℤ lo.lat)) ((hi.lon -ℤ lo.lon) *ℤ (p.lat -ℤ lo.lat))

-- no more than two longitudes are apart (own unit)
pub record IsEastDifference (z : ℤ) : Type 0 where
  pub low : neg_ℤ (pos 3_600_000_000) ≤ℤ z
  pub high : z ≤ℤ pos 3_600_000_000

-- no more than two latitudes are apart (own unit)
pub record IsNorthDifference (z : ℤ) : Type 0 where
  pub low : neg_ℤ (pos 1_800_000_000) ≤ℤ z
  pub high : z ≤ℤ pos 1_800_000_000
