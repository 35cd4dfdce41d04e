use Rattle.lost_core.proofs.LawLemmas.{no_memory}
use Rattle.lost_core.proofs.laws.no_refusal_is_memory.Goals as goal

pub returns : goal.returns
returns c = no_memory
