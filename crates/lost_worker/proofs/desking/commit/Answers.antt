use Rattle.std.proofs.Common.{refl}
use Rattle.lost_worker.proofs.StageLemmas.{committed_step, uncommitted_step}
use Rattle.lost_worker.proofs.desking.commit.Goals as goal

pub returns-in-Ok-clause-judged : goal.returns-in-Ok-clause-judged
returns-in-Ok-clause-judged g c line =
    committed_step line c.args.desk.now c.commit.new.self _ c.in-Ok.ensures.committed c.in-Ok.edition c.in-Ok.ensures.edition refl

pub returns-in-Err-clause-judged : goal.returns-in-Err-clause-judged
returns-in-Err-clause-judged g c line =
    uncommitted_step line c.args.desk.now c.commit.new.self _ c.in-Err.ensures.unchanged refl
