-- Rows and columns: which ones of a level a number is in, and which ones bounds meet (own).
use Rattle.std.specs.Prelude.{ℕ, ◌+◌, ◌*◌, ◌^◌, List, map, ℤ, pos, negsuc, neg_ℤ, ◌+ℤ◌, ◌-ℤ◌, ◌≤ℤ◌}
use Rattle.std.specs.Int.{int_div_euclid}
use Rattle.std.specs.List.{range_with_len}
use Rattle.lost_spec.specs.Ring.{lon_limit}
use Rattle.lost_geo.specs.declared.bounds.Bounds.{Bounds}

-- the side of a square cell of a level, in whole 1e-7 degrees
abbrev pub side : ℕ → ℕ
side level = 2 ^ (18 + 2 * level)

-- the row of a latitude, or the column of a longitude: the quotient by the side, rounded down
abbrev pub line_of : ℕ → ℤ → ℤ
line_of level z = int_div_euclid z (pos (side level))

-- the whole numbers from low up to before end, rising
abbrev pub at_least_zero : ℤ → ℕ
at_least_zero (pos n) = n
at_least_zero (negsuc n) = 0

abbrev pub up_to : ℤ → ℤ → List ℤ
up_to low end = map (λ i. low +ℤ pos i) (range_with_len 0 (at_least_zero (end -ℤ low)))

-- the rows, and the columns, of a level from that of the least bound to that of the greatest one
abbrev pub rows : ℕ → Bounds → List ℤ
rows level bounds = up_to (line_of level bounds.lat_min) (line_of level bounds.lat_max +ℤ pos 1)

abbrev pub columns : ℕ → Bounds → List ℤ
columns level bounds = up_to (line_of level bounds.lon_min) (line_of level bounds.lon_max +ℤ pos 1)

-- ---- ranges

-- the number is a latitude or a longitude
pub record IsOnEarth (z : ℤ) : Type 0 where
  pub low : neg_ℤ lon_limit ≤ℤ z
  pub high : z ≤ℤ lon_limit

-- the number is a row or a column of some level
pub record IsLine (z : ℤ) : Type 0 where
  pub low : neg_ℤ (pos 6867) ≤ℤ z
  pub high : z ≤ℤ pos 6866
