use Rattle.std.proofs.Common.{refl}
use Rattle.std.proofs.lemmas.Result.{err_from_is_err_and}
use Rattle.lost_lines.specs.Answer.{reply_of}
use Rattle.lost_lines.specs.Gate.{Through}
use Rattle.lost_lines.proofs.RunLemmas.{Answers-through}
use Rattle.lost_lines.proofs.ServingLemmas.{Serves-line, Breaks-line}
use Rattle.lost_lines.proofs.server.LineServer.end_line.Goals as goal

pub returns-clause-ok : goal.returns-clause-ok
returns-clause-ok g c piece held =
    let says = g.G.Gate.says c.args.gate.now in
    let step = g.A.Answerer.step in
    let answers = Answers-through says step _ _ piece (reply_of c.answer-answer.result) c.count.ensures.counted.lines c.requires.let_through (c.answer-answer.ensures.answers piece held) in
    Serves-line (Through says step) _ _ piece (reply_of c.answer-answer.result) _ c.bytes.ensures answers _ _ (c.is_long.ensures piece held) refl c.count.ensures.counted c.in_ok-pass_on.ensures.ok

pub returns-in_err-pass_on-clause-err : goal.returns-in_err-pass_on-clause-err
returns-in_err-pass_on-clause-err g c piece held =
    let p = err_from_is_err_and c.from_residual.result c.from_residual.ensures.1 in
    let says = g.G.Gate.says c.args.gate.now in
    let step = g.A.Answerer.step in
    let answers = Answers-through says step _ _ piece (reply_of c.answer-answer.result) c.count.ensures.counted.lines c.requires.let_through (c.answer-answer.ensures.answers piece held) in
    rw p.1 (Breaks-line (Through says step) _ _ piece (reply_of c.answer-answer.result) _ c.bytes.ensures answers c.in_err-pass_on.ensures.err)
