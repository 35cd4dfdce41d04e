use Rattle.std.proofs.Common.{◌≡◌, true, map, take}
use Rattle.std.specs.List.{list_all}
use Rattle.lost_spec.specs.Place.{point_of}
use Rattle.lost_location.specs.Refusals.{is_position}
use Rattle.lost_location.proofs.rings.read_points.Given as goal

abbrev pub invariant-loop-position : goal.invariant-loop-position
invariant-loop-position l = record {
  points : l.points.items ≡ map point_of (take l.position-index l.positions);
  passed : list_all is_position (take l.position-index l.positions) ≡ true;
}
