use Rattle.lost_spec.proofs.TraceLawLemmas.{withdrawn_stays_withdrawn_lem}
use Rattle.lost_spec.proofs.laws.book.withdrawn_stays_withdrawn.Goals as goal

pub returns : goal.returns
returns c = withdrawn_stays_withdrawn_lem
