-- The bounds that a polygon keeps are exact, since its ring has a position.
use Rattle.lost_geo.specs.Kept.{positions_of}
use Rattle.lost_geo.proofs.Exact.{AreExact-ring}
use Rattle.lost_geo.proofs.polygon.Polygon.bounds.Goals as goal

pub returns-clause-exact : goal.returns-clause-exact
returns-clause-exact c =
    rw (← c.self.view_is)
    (AreExact-ring c.self.inside.bounds (positions_of c.self.inside.ring) c.self.invariant.is_ring c.self.invariant.exact)
