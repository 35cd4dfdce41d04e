use Rattle.lost_connections.proofs.AdmissionLemmas.{all_have_left}
use Rattle.lost_connections.proofs.laws.law_all_have_left.Goals as goal

pub returns : goal.returns
returns g c = all_have_left g.met.A.Eq.laws c.args._before.now c.args._after.now
