use Rattle.lost_civicdex.proofs.RequiredLemmas.{required_agree}
use Rattle.lost_civicdex.proofs.laws.required_elements_agree.Goals as goal

pub returns : goal.returns
returns c = required_agree
