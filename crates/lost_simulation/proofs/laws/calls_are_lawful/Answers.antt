use Rattle.lost_simulation.proofs.LawfulLemmas.{calls_are_lawful}
use Rattle.lost_simulation.proofs.laws.calls_are_lawful.Goals as goal

pub returns : goal.returns
returns c = calls_are_lawful
