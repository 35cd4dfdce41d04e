use Rattle.lost_core.proofs.LawLemmas.{lawful}
use Rattle.lost_core.proofs.laws.worlds_are_lawful.Goals as goal

pub returns : goal.returns
returns c = lawful
