use Rattle.std.proofs.Common.{◌≡◌, rules}
use Rattle.lost_worker.proofs.ServingLemmas.{outcome, stays_at}
use Rattle.lost_worker.proofs.streams.serve_lines.Goals as goal

pub returns-clause-outcome : goal.returns-clause-outcome
returns-clause-outcome g c =
    let kept = stays_at g.P.Replier.reader g.M.Moments.coming _ _ c.run_lines.new.answerer _ _ c.run_lines.result c.run_lines.ensures.outcome in
    let k = kept.replier in
    let m = kept.moments in
    let r : c.replier-1.given.0 ≡ c.run_lines.new.answerer.replier.now = search rules in
    let n : c.moments-1.given.0 ≡ c.run_lines.new.answerer.moments.now = search rules in
    rw (r, n) (outcome g.P.Replier.reader g.M.Moments.coming _ _ c.run_lines.new.answerer _ _ c.run_lines.result c.run_lines.ensures.outcome)

pub returns-clause-seen : goal.returns-clause-seen
returns-clause-seen g c =
    let kept = stays_at g.P.Replier.reader g.M.Moments.coming _ _ c.run_lines.new.answerer _ _ c.run_lines.result c.run_lines.ensures.outcome in
    let k = kept.replier in
    let r : c.replier-1.given.0 ≡ c.run_lines.new.answerer.replier.now = search rules in
    rw r kept.seen
