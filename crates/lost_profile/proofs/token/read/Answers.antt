use Rattle.lost_profile.proofs.TokenLemmas.{is_token-not_utf8}
use Rattle.lost_profile.proofs.token.read.Goals as goal

pub returns-in_default-clause-none : goal.returns-in_default-clause-none
returns-in_default-clause-none c = λ _. is_token-not_utf8 c.args.bytes.now c.in_default.ensures.cases.0
