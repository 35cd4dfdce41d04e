use Rattle.lost_export.proofs.SaidLemmas.{published_built, replacing_built}
use Rattle.lost_export.proofs.laws.law_said_is_built.Goals as goal

pub returns-clause-published : goal.returns-clause-published
returns-clause-published c = published_built

pub returns-clause-replacing : goal.returns-clause-replacing
returns-clause-replacing c = replacing_built
