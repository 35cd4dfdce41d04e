use Rattle.std.proofs.lemmas.Result.{err_from_is_err_and, on_ok_weaker, on_err_weaker}
use Rattle.lost_lines.proofs.SendLemmas.{AppendsFront-more, Sends-again, AppendsFront-again}
use Rattle.lost_lines.proofs.output.gather.Goals as goal

pub returns-in_err-release-clause-err : goal.returns-in_err-release-clause-err
returns-in_err-release-clause-err g c =
    let p = err_from_is_err_and c.from_residual.result c.from_residual.ensures.1 in
    let kept = rw c.if-add.false at c.add.ensures in
    rw p.1 (rw (← kept) (AppendsFront-more _ _ _ c.args.text.now c.in_err-release.ensures.sent.err))

pub returns-clause-ok : goal.returns-clause-ok
returns-clause-ok g c =
    let kept = rw c.if-add.false at c.add.ensures in
    rw (← kept) (on_ok_weaker c.gather_or_send.result (λ sends. Sends-again _ _ _ _ _ _ c.args.text.now c.in_ok-release.ensures.sent.ok c.in_ok-release.ensures.empty sends) c.gather_or_send.ensures.ok)

pub returns-clause-err : goal.returns-clause-err
returns-clause-err g c =
    let kept = rw c.if-add.false at c.add.ensures in
    rw (← kept) (on_err_weaker c.gather_or_send.result (λ written. AppendsFront-again _ _ _ _ _ c.args.text.now c.in_ok-release.ensures.sent.ok c.in_ok-release.ensures.empty written) c.gather_or_send.ensures.err)
