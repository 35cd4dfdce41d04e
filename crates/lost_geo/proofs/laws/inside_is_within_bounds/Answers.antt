-- The law, edge by edge.
use Rattle.lost_geo.proofs.Within as within
use Rattle.lost_geo.proofs.laws.inside_is_within_bounds.Goals as goal

pub returns : goal.returns
returns c = within.inside_is_within_bounds
