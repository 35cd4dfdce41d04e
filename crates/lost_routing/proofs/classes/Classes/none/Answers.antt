-- No flag of a list of unset flags is set.
use Rattle.lost_routing.proofs.ClassLemmas.{unset}
use Rattle.lost_routing.proofs.classes.Classes.none.Goals as goal

pub returns : goal.returns
returns c = λ class. unset 64 class
