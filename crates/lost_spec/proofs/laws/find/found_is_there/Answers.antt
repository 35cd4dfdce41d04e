use Rattle.lost_spec.proofs.FindLemmas.{found_is_there_lem}
use Rattle.lost_spec.proofs.laws.find.found_is_there.Goals as goal

pub returns : goal.returns
returns c = found_is_there_lem
