use Rattle.std.proofs.Common.{◌∙◌}
use Rattle.lost_civic.specs.Element.{all_elements}
use Rattle.lost_civicdex.specs.KeyLemmas.{last_grown, last_kept}
use Rattle.lost_civicdex.proofs.texts.find_last.Goals as goal
use Rattle.lost_civicdex.proofs.texts.find_last.Goals.{in-Some, in-None}

pub loop-element-preserved : goal.loop-element-preserved
loop-element-preserved g c =
    let pairs = g.T.ElementTexts.pairs_of c.args.texts.now in
    let place = c.loop-element.element-index in
    elim c.match-text.branch [ in-Some w ↦ rw w.last-is (last_grown pairs all_elements place w.in-Some.text.now c.loop-element-test.true w.in-Some.ensures) | in-None w ↦ rw w.last-is (c.loop-element.invariant ∙ last_kept pairs all_elements place c.loop-element-test.true w.in-None.ensures) ]
