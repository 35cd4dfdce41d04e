use Rattle.lost_replay.proofs.CheckLemmas.{check_outcome, begin_capped}
use Rattle.lost_replay.proofs.checking.check_lines.Goals as goal

pub returns-clause-outcome : goal.returns-clause-outcome
returns-clause-outcome g c =
    check_outcome c.args.name.now c.args.moment.now (g.G.Gate.says c.args.gate.now) _ c.run_lines-served.new.answerer c.in-Ok.ensures (begin_capped c.new-2.result c.new-2.ensures) c.args.turns _ _ c.run_lines-served.result c.law_most_lines.ensures
    (record { refused = c.findings.ensures.refused; bad_requests = c.findings.ensures.bad_requests; unjudged = c.findings.ensures.unjudged; edition = c.findings.ensures.edition }) c.run_lines-served.ensures.outcome
