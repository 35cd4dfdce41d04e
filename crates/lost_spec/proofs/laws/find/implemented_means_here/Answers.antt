use Rattle.lost_spec.proofs.FindLemmas.{implemented_means_here_lem}
use Rattle.lost_spec.proofs.laws.find.implemented_means_here.Goals as goal

pub returns : goal.returns
returns c = implemented_means_here_lem
