use Rattle.std.proofs.Common.{refl}
use Rattle.std.proofs.lemmas.Result.{err_from_is_err_and}
use Rattle.lost_lines.specs.Gate.{Through}
use Rattle.lost_lines.proofs.ServingLemmas.{Serves-sent, Breaks-sent, Advances-sent, Fails-sent, Fails-more}
use Rattle.lost_lines.proofs.server.LineServer.take_chunk.Goals as goal

pub returns-in_err-settle-clause-err : goal.returns-in_err-settle-clause-err
returns-in_err-settle-clause-err g c =
    let p = err_from_is_err_and c.from_residual-in_err-settle.result c.from_residual-in_err-settle.ensures.1 in
    let step = (Through (g.G.Gate.says c.args.gate.now) g.A.Answerer.step) in
    let takes = c.in_ok-rest.ensures.ok.taken in
    rw p.1 (rw takes.splits (Fails-more step _ _ _ _ (Fails-sent step _ _ _ _ takes.advances (Breaks-sent step _ _ refl c.in_err-settle.ensures.sent.err))))

pub returns-clause-ok : goal.returns-clause-ok
returns-clause-ok g c =
    let step = (Through (g.G.Gate.says c.args.gate.now) g.A.Answerer.step) in
    let takes = c.in_ok-rest.ensures.ok.taken in
    record {
      taken = record {
        front = takes.front;
        splits = takes.splits;
        advances = Advances-sent step _ _ _ _ takes.advances (Serves-sent step _ _ refl refl c.in_ok-settle.ensures.sent.ok c.in_ok-settle.ensures.empty) refl;
      };
      stopped = c.in_ok-rest.ensures.ok.stopped;
    }
