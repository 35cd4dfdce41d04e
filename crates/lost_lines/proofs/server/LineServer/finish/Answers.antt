use Rattle.std.proofs.Common.{refl}
use Rattle.std.proofs.lemmas.Result.{on_err_weaker}
use Rattle.lost_lines.specs.Gate.{Through}
use Rattle.lost_lines.proofs.ResultLemmas.{on_ok_both}
use Rattle.lost_lines.proofs.ServingLemmas.{Serves-sent, Breaks-sent, Serves-then_sent, Breaks-then_sent}
use Rattle.lost_lines.proofs.server.LineServer.finish.Goals as goal

pub returns-clause-ok : goal.returns-clause-ok
returns-clause-ok g c piece held =
    on_ok_both c.settle.result (λ sent empty. Serves-then_sent (Through (g.G.Gate.says c.args.gate.now) g.A.Answerer.step) _ _ _ _ (c.in_ok-end_last_line.ensures.ok piece held) (Serves-sent (Through (g.G.Gate.says c.args.gate.now) g.A.Answerer.step) _ _ refl refl sent empty)) c.settle.ensures.sent.ok c.settle.ensures.empty

pub returns-clause-err : goal.returns-clause-err
returns-clause-err g c piece held =
    on_err_weaker c.settle.result (λ written. Breaks-then_sent (Through (g.G.Gate.says c.args.gate.now) g.A.Answerer.step) _ _ _ _ (c.in_ok-end_last_line.ensures.ok piece held) (Breaks-sent (Through (g.G.Gate.says c.args.gate.now) g.A.Answerer.step) _ _ refl written)) c.settle.ensures.sent.err
