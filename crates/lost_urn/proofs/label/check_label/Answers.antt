use Rattle.std.proofs.Common.{arith}
use Rattle.std.proofs.lemmas.Bool.Decides.{nat_tests}
use Rattle.lost_urn.proofs.LabelLemmas.{lowering}
use Rattle.lost_urn.proofs.label.check_label.Goals as goal

pub returns-then-label-gt-MAX_LEN : goal.returns-then-label-gt-MAX_LEN
returns-then-label-gt-MAX_LEN c = grind (arith, nat_tests, lowering)
