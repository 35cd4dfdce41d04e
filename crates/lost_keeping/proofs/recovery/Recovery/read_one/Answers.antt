use Rattle.std.proofs.Common.{◌≡◌, ◌≢◌, inl, inr, ◌∙◌, sym, ap, subst}
use Rattle.lost_spec.specs.Text.{Text}
use Rattle.lost_reading.specs.Desk.{desk_line}
use Rattle.lost_json.specs.Step.{lists_after}
use Rattle.lost_worker.specs.Desking.{desk_terms, lists_of}
use Rattle.lost_journal.specs.Found.{read_of, line_of}
use Rattle.lost_journal.specs.declared.reading.Read.{Read}
use Rattle.lost_journal.specs.declared.reading.Read.TheVariants.{Edit, Commit, LastCommit, End}
use Rattle.lost_keeping.specs.Recovery.{IsReadTo}
use Rattle.lost_keeping.proofs.KeptLemmas.{read_more, commit_does}
use Rattle.lost_keeping.proofs.recovery.Recovery.read_one.Goals as goal

edit_is_no_end : (r : Read) → r ≡ Edit → r ≢ End
edit_is_no_end r a b = absurd (apart (sym a ∙ b))
  where
    apart : Edit ≡ End → ⊥
    apart same = cc

commit_is_no_end : (r : Read) → r ≡ Commit → r ≢ End
commit_is_no_end r a b = absurd (apart (sym a ∙ b))
  where
    apart : Commit ≡ End → ⊥
    apart same = cc

last_is_no_end : (r : Read) → r ≡ LastCommit → r ≢ End
last_is_no_end r a b = absurd (apart (sym a ∙ b))
  where
    apart : LastCommit ≡ End → ⊥
    apart same = cc

pub returns-in_ok-stage-in-Edit-clause-read : goal.returns-in_ok-stage-in-Edit-clause-read
returns-in_ok-stage-in-Edit-clause-read g c = λ clean is.
    let old = c.args.desk.now in
    let new = c.stage.new.desk in
    let reading = c.args.reading.now in
    let next = c.next.new.self in
    let kind = c.in-Edit.is in
    let no_end : c.in-Ok.read ≢ End = edit_is_no_end c.in-Ok.read kind in
    let whole = (reading.passing c.requires.passing (c.next.ensures.clean clean)).whole in
    let unbroken = c.in-Ok.ensures.unbroken no_end in
    let does : lists_of new ≡ lists_after (desk_terms old.limits) (lists_of old) (desk_line (line_of next)) =
    subst (λ (t : Text). lists_of new ≡ lists_after (desk_terms old.limits) (lists_of old) (desk_line t)) c.line.ensures c.in_ok-stage-in-Edit.ensures.staged in
    subst (λ (t : Text). IsReadTo t new) (sym (c.in-Ok.ensures.line (inl kind) clean))
    (read_more (read_of reading) (line_of next) old new is c.stage.ensures.same whole unbroken does)

pub returns-in_ok-commit-in-Commit-clause-read : goal.returns-in_ok-commit-in-Commit-clause-read
returns-in_ok-commit-in-Commit-clause-read g c = λ clean is.
    let old = c.args.desk.now in
    let new = c.commit.new.desk in
    let reading = c.args.reading.now in
    let next = c.next.new.self in
    let kind = c.in-Commit.is in
    let no_end : c.in-Ok.read ≢ End = commit_is_no_end c.in-Ok.read kind in
    let whole = (reading.passing c.requires.passing (c.next.ensures.clean clean)).whole in
    let unbroken = c.in-Ok.ensures.unbroken no_end in
    let does : lists_of new ≡ lists_after (desk_terms old.limits) (lists_of old) (desk_line (line_of next)) =
    subst (λ (t : Text). lists_of new ≡ lists_after (desk_terms old.limits) (lists_of old) (desk_line t)) c.line-in-Commit.ensures (commit_does c.line-in-Commit.result.now old new c.in_ok-commit-in-Commit.ensures.says c.in_ok-commit-in-Commit.ensures.committed) in
    subst (λ (t : Text). IsReadTo t new) (sym (c.in-Ok.ensures.line (inr kind) clean))
    (read_more (read_of reading) (line_of next) old new is c.commit.ensures.same whole unbroken does)

pub returns-in_ok-commit-in-LastCommit-clause-read : goal.returns-in_ok-commit-in-LastCommit-clause-read
returns-in_ok-commit-in-LastCommit-clause-read g c = λ clean is.
    let old = c.args.desk.now in
    let new = c.commit-in-LastCommit.new.desk in
    let reading = c.args.reading.now in
    let next = c.next.new.self in
    let kind = c.in-LastCommit.is in
    let no_end : c.in-Ok.read ≢ End = last_is_no_end c.in-Ok.read kind in
    let whole = (reading.passing c.requires.passing (c.next.ensures.clean clean)).whole in
    let unbroken = c.in-Ok.ensures.unbroken no_end in
    let does : lists_of new ≡ lists_after (desk_terms old.limits) (lists_of old) (desk_line (line_of next)) =
    subst (λ (t : Text). lists_of new ≡ lists_after (desk_terms old.limits) (lists_of old) (desk_line t)) c.line-in-LastCommit.ensures (commit_does c.line-in-LastCommit.result.now old new c.in_ok-commit-in-LastCommit.ensures.says c.in_ok-commit-in-LastCommit.ensures.committed) in
    subst (λ (t : Text). IsReadTo t new) (sym (c.in-Ok.ensures.last_line kind clean))
    (read_more (read_of reading) (line_of next) old new is c.commit-in-LastCommit.ensures.same whole unbroken does)
