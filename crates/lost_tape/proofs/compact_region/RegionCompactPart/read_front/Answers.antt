use Rattle.std.proofs.Common.{IfSome, sym, subst}
use Rattle.lost_location.specs.Region.{region_of}
use Rattle.lost_tape.specs.Values.{before_polygon, IsPartBefore, region_kind}
use Rattle.lost_tape.proofs.compact_region.RegionCompactPart.read_front.Goals as goal

pub returns-in-Some : goal.returns-in-Some
unfolding before_polygon
returns-in-Some c =
    subst (λ t. IfSome c.read_front_ring.result (λ found. IsPartBefore 3 region_kind t (region_of found.0) found.1.now)) (sym c.in-Some.ensures) c.read_front_ring.ensures
