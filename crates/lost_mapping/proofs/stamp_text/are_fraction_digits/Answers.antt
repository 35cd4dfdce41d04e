use Rattle.std.proofs.Common.{arith}
use Rattle.std.proofs.lemmas.Bool.Decides.{nat_tests}
use Rattle.lost_mapping.proofs.stamp_text.are_fraction_digits.Goals as goal

pub returns-then-digits-le-MAX_FRACTION_LEN : goal.returns-then-digits-le-MAX_FRACTION_LEN
returns-then-digits-le-MAX_FRACTION_LEN c = grind (arith, nat_tests)
