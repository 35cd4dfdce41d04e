use Rattle.lost_simulation.proofs.LawLemmas.{calls_are_a_run}
use Rattle.lost_simulation.proofs.laws.calls_are_a_run.Goals as goal

pub returns : goal.returns
returns c = calls_are_a_run
