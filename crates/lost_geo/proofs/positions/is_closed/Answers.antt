-- The positions compared stand at the two ends.
use Rattle.std.proofs.Common.{◌∙◌, ap, ℤ}
use Rattle.lost_spec.specs.Place.{point_of}
use Rattle.lost_spec.specs.Ring.{same_point}
use Rattle.lost_geo.proofs.Closed.{is_closed-positions}
use Rattle.lost_geo.proofs.positions.is_closed.Goals as goal

pub returns : goal.returns
returns g c =
    c.is_same.ensures
    ∙ (ap (λ (first : ℤ × ℤ). same_point (point_of first) (point_of c.position-2.result)) c.position.ensures
    ∙ (ap (λ (last : ℤ × ℤ). same_point (point_of (g.T.Positions.position_of c.index-items-0.result)) (point_of last)) c.position-2.ensures
    ∙ is_closed-positions g.T.Positions.position_of c.args.items.now c.index-items-0.result c.index-items-items.result c.requires
    c.index-items-0.is c.index-items-items.is))
