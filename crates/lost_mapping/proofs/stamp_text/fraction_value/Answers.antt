use Rattle.std.proofs.Common.{arith}
use Rattle.lost_mapping.proofs.DigitLemmas.{fraction_small}
use Rattle.lost_mapping.proofs.stamp_text.fraction_value.Goals as goal

pub overflow_mul-result : goal.overflow_mul-result
overflow_mul-result c = let small = fraction_small c.args.text.now _ _ c.requires c.digits_value.ensures.value c.pow.ensures in omega (arith, small)

pub returns-clause-small : goal.returns-clause-small
returns-clause-small c = fraction_small c.args.text.now _ _ c.requires c.digits_value.ensures.value c.pow.ensures
