use Rattle.std.proofs.Common.{refl}
use Rattle.lost_geo.specs.Runs.{edges_of_a_run}
use Rattle.lost_geo.proofs.run.run_len.Goals as goal

pub returns-clause-value : goal.returns-clause-value
unfolding edges_of_a_run
returns-clause-value c = refl
