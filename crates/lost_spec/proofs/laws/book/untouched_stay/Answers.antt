use Rattle.lost_spec.proofs.EditLemmas.{untouched_stay_lem}
use Rattle.lost_spec.proofs.laws.book.untouched_stay.Goals as goal

pub returns : goal.returns
returns c = untouched_stay_lem
