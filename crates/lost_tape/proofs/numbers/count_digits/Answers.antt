use Rattle.std.proofs.Common.{◌<◌, ◌≤◌, get_or, length, arith}
use Rattle.std.proofs.lemmas.Bool.Decides.{nat_tests}
use Rattle.std.proofs.lemmas.Str.{digit_value_digit}
use Rattle.std.proofs.lemmas.Int.Digits.{digits_more, digits_value_more}
use Rattle.lost_tape.proofs.numbers.count_digits.Goals as goal

pub loop-at-preserved : goal.loop-at-preserved
loop-at-preserved c =
    let text = c.args.text.now in
    let at = c.loop-at.at in
    let held = c.loop-at.invariant in
    let within : at < length text = omega arith in
    let low : 48 ≤ get_or text at 0 = grind (arith, nat_tests) in
    let high : get_or text at 0 ≤ 57 = grind (arith, nat_tests) in
    let digit = digit_value_digit (get_or text at 0) (low, high) in
    record {
      within = omega arith;
      digits = digits_more 10 text at within held.digits (omega (arith, digit));
      value = omega (arith, held.value, digit, digits_value_more 10 text at within);
      small = omega (arith, digit);
    }
