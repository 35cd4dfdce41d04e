use Rattle.lost_spec.proofs.CoverLemmas.{CoversEachNameOnce-validation}
use Rattle.lost_spec.proofs.laws.lists.validation_covers_the_address.Goals as goal

pub returns : goal.returns
returns c = CoversEachNameOnce-validation
