use Rattle.std.proofs.Common.{◌≡◌, sym, ◌∙◌, ap, subst}
use Rattle.lost_spec.specs.Text.{Text}
use Rattle.lost_lines.specs.Cutting.{last_piece}
use Rattle.lost_journal.specs.Seen.{body_of, pending_of}
use Rattle.lost_keeping.specs.Kept.{OrdersCommit, lists_kept}
use Rattle.lost_keeping.proofs.KeptLemmas.{commit_kept, last_commit}
use Rattle.lost_keeping.proofs.keeper.Keeper.keep_pending.Goals as goal

pub returns-clause-kept : goal.returns-clause-kept
returns-clause-kept g c = λ clean kept.
    let old = c.args.self.now in
    let d = c.args.desk.now in
    let a = c.in_ok-commit.ensures in
    let line = c.as_bytes.result.now in
    let says : OrdersCommit line = subst OrdersCommit (sym c.as_bytes.ensures.value) c.in_ok-line.ensures in
    let are = (old.journal.settled clean).pending in
    let body_is = a.kept clean in
    record {
      kept = ap (lists_kept d.limits) body_is ∙ commit_kept (body_of old.journal) (pending_of old.journal) line old.owes d kept are a.unbroken says;
      nothing = a.nothing_pending clean;
      commits = subst OrdersCommit (sym (ap last_piece body_is ∙ last_commit (body_of old.journal) (pending_of old.journal) line are a.unbroken)) says;
    }
