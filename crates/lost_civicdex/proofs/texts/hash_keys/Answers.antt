use Rattle.lost_civicdex.proofs.MadeLemmas.{made_pushed, made_kept}
use Rattle.lost_civicdex.specs.HashedKeys.{hashed}
use Rattle.lost_civicdex.proofs.texts.hash_keys.Goals as goal

pub loop-element-preserved-in_default : goal.loop-element-preserved-in_default
loop-element-preserved-in_default g c =
    made_kept hashed (g.T.ElementTexts.pairs_of c.args.texts.now) c.args.elements.now c.loop-element.element-index
    c.loop-element.keys.items c.loop-element-test.true c.in_default.ensures c.loop-element.invariant

pub loop-element-preserved : goal.loop-element-preserved
loop-element-preserved g c =
    made_pushed hashed (g.T.ElementTexts.pairs_of c.args.texts.now) c.args.elements.now c.loop-element.element-index c.in-Some.text.now c.new.result
    c.loop-element.keys.items c.push.new.self.items c.loop-element-test.true c.in-Some.ensures c.new.ensures c.loop-element.invariant c.in_ok-push.ensures.items
