use Rattle.lost_urn.proofs.ReadLemmas.{read_back}
use Rattle.lost_urn.proofs.laws.text_reads_back.Goals as goal

pub returns : goal.returns
returns c = read_back
