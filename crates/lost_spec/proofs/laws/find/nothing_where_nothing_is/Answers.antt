use Rattle.lost_spec.proofs.FindLemmas.{nothing_where_nothing_is_lem}
use Rattle.lost_spec.proofs.laws.find.nothing_where_nothing_is.Goals as goal

pub returns : goal.returns
returns c = nothing_where_nothing_is_lem
