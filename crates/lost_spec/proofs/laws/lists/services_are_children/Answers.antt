use Rattle.lost_spec.proofs.ChildLemmas.{AreChildren-services}
use Rattle.lost_spec.proofs.laws.lists.services_are_children.Goals as goal

pub returns : goal.returns
returns c = AreChildren-services
