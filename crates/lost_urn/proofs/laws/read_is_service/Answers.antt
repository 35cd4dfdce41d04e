use Rattle.lost_urn.proofs.ReadLemmas.{read_ok}
use Rattle.lost_urn.proofs.laws.read_is_service.Goals as goal

pub returns : goal.returns
returns c = λ text s read. (read_ok text s read).1
