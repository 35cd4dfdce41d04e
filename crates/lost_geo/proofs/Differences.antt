-- How large differences of longitudes and of latitudes are.
use Rattle.std.proofs.Common.{ℤ, pos, negsuc, ◌≤◌, unsigned_abs, arith}
use Rattle.std.proofs.lemmas.Int.{ints}
use Rattle.lost_geo.specs.Sides.{IsEastDifference, IsNorthDifference}

pub unsigned_abs-east : (z : ℤ) → IsEastDifference z → unsigned_abs z ≤ 3_600_000_000
unsigned_abs-east (pos n) r = omega (arith, ints)
unsigned_abs-east (negsuc n) r = omega (arith, ints)

pub unsigned_abs-north : (z : ℤ) → IsNorthDifference z → unsigned_abs z ≤ 1_800_000_000
unsigned_abs-north (pos n) r = omega (arith, ints)
unsigned_abs-north (negsuc n) r = omega (arith, ints)
