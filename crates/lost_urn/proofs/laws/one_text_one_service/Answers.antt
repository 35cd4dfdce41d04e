use Rattle.lost_urn.proofs.ReadLemmas.{same_from_text}
use Rattle.lost_urn.proofs.laws.one_text_one_service.Goals as goal

pub returns : goal.returns
returns c = same_from_text
