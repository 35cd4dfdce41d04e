use Rattle.std.proofs.Common.{◌≡◌, rules}
use Rattle.lost_keeping.proofs.KeepingLemmas.{stays_at}
use Rattle.lost_keeping.proofs.serving.serve_desk_kept.Goals as goal

pub returns-clause-same : goal.returns-clause-same
returns-clause-same g c =
    let stays = stays_at _ _ _ c.run_lines.new.answerer _ _ c.run_lines.result c.run_lines.ensures.outcome in
    let k = stays.desk in
    let r : c.desk-1.given.0 ≡ c.run_lines.new.answerer.desk.now = search rules in
    rw r stays.same

pub returns-clause-clean : goal.returns-clause-clean
returns-clause-clean g c =
    let stays = stays_at _ _ _ c.run_lines.new.answerer _ _ c.run_lines.result c.run_lines.ensures.outcome in
    let k = stays.keeper in
    let s : c.keeper-1.given.0 ≡ c.run_lines.new.answerer.keeper.now = search rules in
    rw s stays.clean

pub returns-clause-kept : goal.returns-clause-kept
returns-clause-kept g c =
    let stays = stays_at _ _ _ c.run_lines.new.answerer _ _ c.run_lines.result c.run_lines.ensures.outcome in
    let k = stays.desk in
    let j = stays.keeper in
    let r : c.desk-1.given.0 ≡ c.run_lines.new.answerer.desk.now = search rules in
    let s : c.keeper-1.given.0 ≡ c.run_lines.new.answerer.keeper.now = search rules in
    rw (r, s) stays.kept
