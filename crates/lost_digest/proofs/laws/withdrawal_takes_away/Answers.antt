use Rattle.std.proofs.Common.{sym}
use Rattle.lost_digest.proofs.Summing.{digest_withdrawn}
use Rattle.lost_digest.proofs.laws.withdrawal_takes_away.Goals as goal

pub returns : goal.returns
returns c = λ b id stamp old held. sym (digest_withdrawn b.mappings id old held)
