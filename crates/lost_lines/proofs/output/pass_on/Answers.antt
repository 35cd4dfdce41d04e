use Rattle.std.proofs.lemmas.Result.{on_err_weaker}
use Rattle.lost_lines.proofs.ResultLemmas.{on_ok_both}
use Rattle.lost_lines.proofs.SendLemmas.{Sends-settled, AppendsFront-settled}
use Rattle.lost_lines.proofs.output.pass_on.Goals as goal

pub returns-clause-ok : goal.returns-clause-ok
returns-clause-ok g c =
    on_ok_both c.settle.result (λ sent empty. Sends-settled _ _ _ _ _ _ c.args.text.now c.in_ok-gather.ensures.ok sent empty) c.settle.ensures.sent.ok c.settle.ensures.empty

pub returns-clause-err : goal.returns-clause-err
returns-clause-err g c =
    on_err_weaker c.settle.result (λ written. AppendsFront-settled _ _ _ _ _ c.args.text.now c.in_ok-gather.ensures.ok written) c.settle.ensures.sent.err
