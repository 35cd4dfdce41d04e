-- The least and the greatest of numbers within a range are within it.
use Rattle.std.proofs.Common.{arith}
use Rattle.std.proofs.lemmas.Int.{ints, clamps}
use Rattle.lost_geo.proofs.bounds.Bounds.widened.Goals as goal

pub returns-clause-in_range : goal.returns-clause-in_range
returns-clause-in_range c = record {
  lat_low = omega (arith, ints, clamps);
  lat_order = omega (arith, ints, clamps);
  lat_high = omega (arith, ints, clamps);
  lon_low = omega (arith, ints, clamps);
  lon_order = omega (arith, ints, clamps);
  lon_high = omega (arith, ints, clamps);
}
