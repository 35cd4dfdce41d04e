use Rattle.std.proofs.Common.{sym, ◌∙◌}
use Rattle.lost_civicdex.specs.KeyLemmas.{keys_pushed, keys_kept}
use Rattle.lost_civicdex.proofs.texts.make_keys.Goals as goal

pub loop-element-preserved-in_default : goal.loop-element-preserved-in_default
loop-element-preserved-in_default g c =
    c.loop-element.invariant ∙ sym (keys_kept (g.T.ElementTexts.pairs_of c.args.texts.now) c.args.elements.now c.loop-element.element-index c.loop-element-test.true c.in_default.ensures)

pub loop-element-preserved : goal.loop-element-preserved
loop-element-preserved g c =
    keys_pushed (g.T.ElementTexts.pairs_of c.args.texts.now) c.args.elements.now c.loop-element.element-index c.in-Some.text.now c.in_ok-new.field-0
    c.loop-element.keys.items c.push.new.self.items c.loop-element-test.true c.in-Some.ensures c.in_ok-new.ensures c.loop-element.invariant c.in_ok-push.ensures.items
