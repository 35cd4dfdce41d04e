use Rattle.std.proofs.lemmas.Result.{IfOk-weaker}
use Rattle.lost_export.proofs.LineLemmas.{json_printed}
use Rattle.lost_export.proofs.ReadLemmas.{reads_back}
use Rattle.lost_export.proofs.publish.publish_json.Goals as goal

pub returns : goal.returns
returns c =
    record {
      text = IfOk-weaker c.to_vec.result _ _ (λ json printed. json_printed c.args.mapping.now _ json.items c.in_ok-tree.ensures printed) c.to_vec.ensures.text;
      reads_back = reads_back c.args.mapping.now _ (λ json. json.items) c.to_vec.result c.in_ok-tree.ensures c.to_vec.ensures.text c.to_vec.ensures.utf8 c.to_vec.ensures.reads_back;
    }
