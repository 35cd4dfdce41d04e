use Rattle.lost_spec.proofs.OfferLemmas.{services_are_there_lem}
use Rattle.lost_spec.proofs.laws.lists.services_are_there.Goals as goal

pub returns : goal.returns
returns c = services_are_there_lem
