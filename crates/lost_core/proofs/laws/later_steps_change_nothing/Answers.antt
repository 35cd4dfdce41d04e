use Rattle.lost_core.proofs.LaterLemmas.{later_changes_nothing}
use Rattle.lost_core.proofs.laws.later_steps_change_nothing.Goals as goal

pub returns : goal.returns
returns c = later_changes_nothing
