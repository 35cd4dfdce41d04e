use Rattle.lost_spec.proofs.LiveLemmas.{expired_do_not_matter_lem}
use Rattle.lost_spec.proofs.laws.answers.expired_do_not_matter.Goals as goal

pub returns : goal.returns
returns c = expired_do_not_matter_lem
