use Rattle.std.proofs.Common.{◌≡◌, ℕ, true, false, rules}
use Rattle.lost_worker.proofs.DeskingLemmas.{stays_at, stream_outcome, watched_outcome}
use Rattle.lost_worker.proofs.desk_stream.serve_desk_with.Goals as goal

-- the gate lets each line through, so it refuses none
refuses_none : (line : ℕ) → false ≡ true → ⊥
refuses_none line refused = absurd (cc)

pub returns-clause-watched : goal.returns-clause-watched
returns-clause-watched g c =
    let kept = stays_at _ _ _ c.run_lines.new.answerer _ _ c.run_lines.result c.run_lines.ensures.outcome in
    let k = kept.desk in
    let j = kept.witness in
    let r : c.desk-1.given.0 ≡ c.run_lines.new.answerer.desk.now = search rules in
    let s : c.witness-1.given.0 ≡ c.run_lines.new.answerer.witness.now = search rules in
    rw (r, s) (watched_outcome _ _ _ c.run_lines.new.answerer _ _ c.run_lines.result c.run_lines.ensures.outcome)

pub returns-clause-outcome : goal.returns-clause-outcome
returns-clause-outcome g c =
    let kept = stays_at _ _ _ c.run_lines.new.answerer _ _ c.run_lines.result c.run_lines.ensures.outcome in
    let k = kept.desk in
    let r : c.desk-1.given.0 ≡ c.run_lines.new.answerer.desk.now = search rules in
    rw r (stream_outcome _ _ refuses_none _ _ _ _ _ c.run_lines.result (watched_outcome _ _ _ c.run_lines.new.answerer _ _ c.run_lines.result c.run_lines.ensures.outcome))

pub returns-clause-same : goal.returns-clause-same
returns-clause-same g c =
    let kept = stays_at _ _ _ c.run_lines.new.answerer _ _ c.run_lines.result c.run_lines.ensures.outcome in
    let k = kept.desk in
    let r : c.desk-1.given.0 ≡ c.run_lines.new.answerer.desk.now = search rules in
    rw r kept.same
