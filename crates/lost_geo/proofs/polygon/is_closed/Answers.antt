-- The positions compared stand at the two ends.
use Rattle.std.proofs.Common.{◌∙◌}
use Rattle.lost_geo.proofs.Closed.{is_closed-ends}
use Rattle.lost_geo.proofs.polygon.is_closed.Goals as goal

pub returns : goal.returns
returns c =
    c.eq.ensures
    ∙ is_closed-ends c.args.positions.now c.index-positions-0.result c.index-positions-positions.result c.requires
    c.index-positions-0.is c.index-positions-positions.is
