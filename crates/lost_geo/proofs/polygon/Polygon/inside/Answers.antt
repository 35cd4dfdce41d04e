-- Where the bounds do not hold the place, no ring does.
use Rattle.lost_geo.specs.Kept.{positions_of}
use Rattle.lost_geo.proofs.Within.{not_inside_beyond}
use Rattle.lost_geo.proofs.polygon.Polygon.inside.Goals as goal

pub returns-else-holds-clause-inside : goal.returns-else-holds-clause-inside
returns-else-holds-clause-inside c =
    rw (← c.self.view_is)
    (not_inside_beyond (positions_of c.self.inside.ring) c.self.inside.bounds c.args.point.now c.normal-place.result c.holds.result
    c.self.invariant c.normal-place.ensures.normal c.holds.ensures c.if-holds.false)
