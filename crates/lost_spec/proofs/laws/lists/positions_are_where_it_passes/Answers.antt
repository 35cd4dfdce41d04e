use Rattle.lost_spec.proofs.PositionLemmas.{positions_are_where_it_passes_lem}
use Rattle.lost_spec.proofs.laws.lists.positions_are_where_it_passes.Goals as goal

pub returns : goal.returns
returns c = positions_are_where_it_passes_lem
