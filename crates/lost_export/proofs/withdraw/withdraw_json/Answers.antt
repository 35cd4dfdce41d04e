use Rattle.std.proofs.lemmas.Result.{IfOk-weaker}
use Rattle.lost_export.proofs.WithdrawLemmas.{withdrawal_printed, withdrawal_reads_back}
use Rattle.lost_export.proofs.withdraw.withdraw_json.Goals as goal

pub returns : goal.returns
returns c =
    record {
      text = IfOk-weaker c.to_vec.result _ _ (λ json printed. withdrawal_printed c.args.identity.now c.args.stamp.now _ json.items c.in_ok-tree.ensures.tree printed) c.to_vec.ensures.text;
      reads_back = withdrawal_reads_back c.args.identity.now c.args.stamp.now _ (λ json. json.items) c.to_vec.result c.in_ok-tree.ensures.well_formed c.in_ok-tree.ensures.tree c.to_vec.ensures.text c.to_vec.ensures.utf8 c.to_vec.ensures.reads_back;
    }
