use Rattle.std.proofs.Common.{◌∙◌, ap}
use Rattle.lost_civic.specs.Pairs.{seen_pairs}
use Rattle.lost_civic.specs.Texts.{seen_table}
use Rattle.lost_civic.proofs.TextLemmas.{table_more}
use Rattle.lost_civic.proofs.texts.make_table.Goals as goal

pub loop-element-preserved : goal.loop-element-preserved
loop-element-preserved c =
    ap seen_table c.in_ok-push.ensures.items ∙ table_more (seen_pairs c.args.pairs.now) c.loop-element.texts.items c.in_ok-make_text.field-0 c.loop-element.element-index c.loop-element-test.true c.loop-element.invariant c.in_ok-make_text.ensures
