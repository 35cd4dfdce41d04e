use Rattle.lost_spec.proofs.InstantLemmas.{instants_are_ordered_lem}
use Rattle.lost_spec.proofs.laws.instants.instants_are_ordered.Goals as goal

pub returns : goal.returns
returns c = instants_are_ordered_lem
