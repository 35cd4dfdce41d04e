use Rattle.std.proofs.Common.{◌≡◌, inl, refl, sym, subst, false, true}
use Rattle.lost_spec.specs.Text.{Text}
use Rattle.lost_desk.specs.Seen.{DeskSeen, with_committed}
use Rattle.lost_worker.proofs.StageLemmas.{committed_step, uncommitted_step}
use Rattle.lost_journal.specs.Seen.{body_of, pending_of}
use Rattle.lost_keeping.specs.Kept.{IsKeptFor}
use Rattle.lost_keeping.proofs.KeptLemmas.{published_kept, owed_kept}
use Rattle.lost_keeping.proofs.keeper.Keeper.commit.Goals as goal

pub returns-in-Ok-clause-kept : goal.returns-in-Ok-clause-kept
returns-in-Ok-clause-kept g c = λ clean kept.
    let j = c.keep_pending.new.self.journal in
    let d = c.args.desk.now in
    let all = c.in_default.ensures.kept clean kept in
    subst (λ (s : DeskSeen). IsKeptFor (body_of j) (pending_of j) false s) (sym c.in-Ok.ensures.committed)
    (subst (λ (w : Text). IsKeptFor (body_of j) w false (with_committed d)) (sym all.nothing) (published_kept (body_of j) d all.kept all.commits))

pub returns-in-Ok-clause-answered : goal.returns-in-Ok-clause-answered
returns-in-Ok-clause-answered g c = inl (λ line.
    committed_step line c.args.desk.now c.commit.new.self _ c.in-Ok.ensures.committed c.in-Ok.edition c.in-Ok.ensures.edition refl)

pub returns-in-Err-commit-clause-kept : goal.returns-in-Err-commit-clause-kept
returns-in-Err-commit-clause-kept g c = λ clean kept.
    let j = c.keep_pending.new.self.journal in
    let d = c.args.desk.now in
    let all = c.in_default.ensures.kept clean kept in
    subst (λ (s : DeskSeen). IsKeptFor (body_of j) (pending_of j) true s) (sym c.in-Err-commit.ensures.unchanged)
    (subst (λ (w : Text). IsKeptFor (body_of j) w true d) (sym all.nothing) (owed_kept (body_of j) d all.kept all.commits))

pub returns-in-Err-commit-clause-answered : goal.returns-in-Err-commit-clause-answered
returns-in-Err-commit-clause-answered g c = inl (λ line.
    uncommitted_step line c.args.desk.now c.commit.new.self _ c.in-Err-commit.ensures.unchanged refl)
