use Rattle.lost_spec.proofs.FindLemmas.{nothing_unless_implemented_lem}
use Rattle.lost_spec.proofs.laws.find.nothing_unless_implemented.Goals as goal

pub returns : goal.returns
returns c = nothing_unless_implemented_lem
