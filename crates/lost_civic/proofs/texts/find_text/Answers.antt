use Rattle.std.proofs.Common.{◌∙◌, ap, sym, Some, rules}
use denote.Enum.Bare.{same_true, same_false}
use Rattle.lost_civic.specs.contracts.elements.Element.{the_type}
use Rattle.lost_civic.proofs.TextLemmas.{value_of-at, value_of-past}
use Rattle.lost_civic.proofs.texts.find_text.Goals as goal

pub returns-then-eq : goal.returns-then-eq
returns-then-eq c =
    let compared = c.compared-item.result in
    let same = same_true the_type (search rules) compared.element c.args.element (sym c.eq.ensures ∙ c.if-eq.true) in
    ap Some c.as_str.ensures.value ∙ (sym (value_of-at c.args.list.now c.loop-compared.compared-index compared c.args.element c.loop-compared-test.true c.compared-item.is same) ∙ sym c.loop-compared.invariant)

pub loop-compared-preserved : goal.loop-compared-preserved
loop-compared-preserved c =
    let compared = c.compared-item.result in
    let differ = same_false the_type compared.element c.args.element (sym c.eq.ensures ∙ c.if-eq.false) in
    c.loop-compared.invariant ∙ value_of-past c.args.list.now c.loop-compared.compared-index compared c.args.element c.loop-compared-test.true c.compared-item.is differ
