use Rattle.lost_spec.proofs.FindLemmas.{here_means_implemented_lem}
use Rattle.lost_spec.proofs.laws.find.here_means_implemented.Goals as goal

pub returns : goal.returns
returns c = here_means_implemented_lem
