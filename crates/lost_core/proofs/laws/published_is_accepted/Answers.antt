use Rattle.lost_core.proofs.LawLemmas.{published_accepted}
use Rattle.lost_core.proofs.laws.published_is_accepted.Goals as goal

pub returns : goal.returns
returns c = published_accepted
