use Rattle.std.proofs.Common.{arith}
use Rattle.std.proofs.lemmas.Bool.Decides.{nat_tests}
use Rattle.lost_profile.proofs.TokenLemmas.{is_token-utf8}
use Rattle.lost_profile.proofs.token.is_id.Goals as goal

pub returns-then-text-le-MAX_ID_BYTES : goal.returns-then-text-le-MAX_ID_BYTES
returns-then-text-le-MAX_ID_BYTES c = rw (is_token-utf8 c.args.text.now c.utf8.text) (grind (arith, nat_tests))

pub returns-else-text-le-MAX_ID_BYTES : goal.returns-else-text-le-MAX_ID_BYTES
returns-else-text-le-MAX_ID_BYTES c = rw (is_token-utf8 c.args.text.now c.utf8.text) (grind (arith, nat_tests))
