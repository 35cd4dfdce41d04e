-- The elements that stand there are counted.
use Rattle.lost_civic.specs.Element.{all_elements}
use Rattle.lost_civicdex.proofs.HasLemmas.{nth_here, nth_passed, nth_kept, nth_none}
use Rattle.lost_civicdex.proofs.texts.find_nth.Goals as goal

pub loop-element-preserved-in_default : goal.loop-element-preserved-in_default
loop-element-preserved-in_default g c =
    nth_kept (g.T.ElementTexts.pairs_of c.args.texts.now) all_elements c.loop-element.element-index c.loop-element.left c.args.position
    c.loop-element-test.true c.in_default.ensures c.loop-element.invariant

pub returns-then-left-eq0 : goal.returns-then-left-eq0
returns-then-left-eq0 g c =
    nth_here (g.T.ElementTexts.pairs_of c.args.texts.now) all_elements c.loop-element.element-index c.loop-element.left c.args.position c.in-Some.text.now
    c.loop-element-test.true c.in-Some.ensures c.loop-element.invariant c.if-left-eq0.true

pub loop-element-preserved : goal.loop-element-preserved
loop-element-preserved g c =
    nth_passed (g.T.ElementTexts.pairs_of c.args.texts.now) all_elements c.loop-element.element-index c.loop-element.left c.args.position c.in-Some.text.now
    c.loop-element-test.true c.in-Some.ensures c.loop-element.invariant c.if-left-eq0.false

pub returns : goal.returns
returns g c =
    nth_none (g.T.ElementTexts.pairs_of c.args.texts.now) all_elements c.loop-element.element-index c.loop-element.left c.args.position
    c.loop-element-test.false c.loop-element.invariant
