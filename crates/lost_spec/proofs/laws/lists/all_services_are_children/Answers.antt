use Rattle.lost_spec.proofs.ChildLemmas.{AreChildren-all_services}
use Rattle.lost_spec.proofs.laws.lists.all_services_are_children.Goals as goal

pub returns : goal.returns
returns c = AreChildren-all_services
