use Rattle.std.proofs.Common.{sym}
use Rattle.lost_digest.proofs.Summing.{digest_replaced}
use Rattle.lost_digest.proofs.laws.replacement_exchanges.Goals as goal

pub returns : goal.returns
returns c = λ b m old held. sym (digest_replaced b.mappings m old held)
