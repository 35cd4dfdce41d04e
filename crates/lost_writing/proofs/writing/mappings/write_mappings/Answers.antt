use Rattle.std.proofs.Common.{◌∙◌, sym, ap}
use Rattle.serde_json.specs.Data.{Data}
use Rattle.lost_spec.specs.Mapping.{Mapping}
use Rattle.lost_mapping.specs.Reply.{shown_with}
use Rattle.lost_writing.specs.Replies.{shown_data}
use Rattle.lost_writing.specs.Tokens.{then_value}
use Rattle.lost_writing.proofs.TokenLemmas.{values_more}
use Rattle.lost_writing.proofs.writing.mappings.write_mappings.Goals as goal

pub loop-mapping-preserved : goal.loop-mapping-preserved
loop-mapping-preserved c =
    let written : Mapping → Data = λ m. shown_data (shown_with c.args.boundary m) in
    let mapping = c.mapping-item.result in
    let more = values_more written c.args.mappings.now c.loop-mapping.mapping-index mapping c.args.text.now c.loop-mapping-test.true c.mapping-item.is in
    c.in_ok-write_mapping.ensures ∙ ap (then_value (written mapping)) c.loop-mapping.invariant ∙ sym more
