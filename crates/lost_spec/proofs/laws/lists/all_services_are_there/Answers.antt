use Rattle.lost_spec.proofs.OfferLemmas.{all_services_are_there_lem}
use Rattle.lost_spec.proofs.laws.lists.all_services_are_there.Goals as goal

pub returns : goal.returns
returns c = all_services_are_there_lem
