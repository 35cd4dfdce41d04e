use Rattle.std.proofs.Common.{length, arith}
use Rattle.std.proofs.lemmas.Bool.Decides.{nat_tests}
use Rattle.lost_geo.proofs.DecimalLemmas.{filled_small}
use Rattle.lost_geo.proofs.decimal.decimals_value.Goals as goal

pub overflow_mul-result : goal.overflow_mul-result
overflow_mul-result c = let small = filled_small (length c.args.digits.now) _ _ (grind (arith, nat_tests)) c.digits_value.ensures.small c.pow.ensures in omega (arith, small)

pub returns-clause-small : goal.returns-clause-small
returns-clause-small c = filled_small (length c.args.digits.now) _ _ (grind (arith, nat_tests)) c.digits_value.ensures.small c.pow.ensures
