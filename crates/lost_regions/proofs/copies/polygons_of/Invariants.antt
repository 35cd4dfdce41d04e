use Rattle.std.proofs.Common.{◌≡◌, take}
use Rattle.lost_regions.proofs.copies.polygons_of.Given as goal

abbrev pub invariant-loop-position : goal.invariant-loop-position
invariant-loop-position l = l.polygons.items ≡ take l.position l.mapping.regions.polygons
