use Rattle.std.proofs.Common.{◌≡◌, ◌<◌, ◌++◌, decimal, get_or, arith, ap, ◌∙◌, sym, take_all, length-drop, rules, tests}
use Rattle.lost_tape.proofs.NumberLemmas.{number_front}
use Rattle.lost_tape.proofs.numbers.read_digits.Goals as goal

pub returns-then-is_decimal-clause-text : goal.returns-then-is_decimal-clause-text
returns-then-is_decimal-clause-text c =
    let n = c.count_digits-value in
    let is : (0 < n.result.1) × (get_or c.args.text.now 0 0 ≡ 48 → n.result.1 ≡ 1) = search (rules, tests) in
    number_front c.args.text.now n.result.1 n.result.0 n.ensures.within n.ensures.digits n.ensures.value (omega (arith, n.ensures.small)) is.0 is.1
    ∙ ap (λ t. decimal n.result.0 ++ t) (sym (take_all _ _ (omega (arith, length-drop n.result.1 c.args.text.now))))
