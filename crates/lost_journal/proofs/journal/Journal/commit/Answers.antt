use Rattle.std.proofs.Common.{◌≡◌, ◌⊎◌, inl, inr, ⊎_elim, ◌++◌, IsTrue, sym, ◌∙◌, ap, subst}
use Rattle.lost_spec.specs.Text.{Text}
use Rattle.lost_journal.specs.Format.{Keeps, IsTornAfter, with_gate, with_commit, closed}
use Rattle.lost_journal.specs.Seen.{body_of, behind_of, pending_of, doubtful_of}
use Rattle.lost_journal.proofs.OutcomeLemmas.{outcome, doubt_is, same_doubt}
use Rattle.lost_journal.proofs.journal.Journal.commit.Goals as goal

pub returns-then-not-is_begun_commit-clause-crash : goal.returns-then-not-is_begun_commit-clause-crash
returns-then-not-is_begun_commit-clause-crash g c = λ clean c' may. inl (outcome c.args.self.now clean c' may)

pub returns-in_default-clause-crash : goal.returns-in_default-clause-crash
returns-in_default-clause-crash g c = λ clean c' may. inl (outcome c.args.self.now clean c' may)

pub returns-in_err-pass_gate-clause-crash : goal.returns-in_err-pass_gate-clause-crash
returns-in_err-pass_gate-clause-crash g c = λ clean c' may.
    let old = c.args.self.now in
    let shut = c.close_gate.new.self in
    let stood = c.stand.new.self in
    let new = c.pass_gate.new.self in
    let at_shut = subst IsTrue (sym c.close_gate.ensures.clean) clean in
    let at_stood = subst IsTrue (sym c.stand.ensures.clean) at_shut in
    let at_new = subst IsTrue (sym c.pass_gate.ensures.clean) at_stood in
    let beside = (c.in_err-pass_gate.ensures.same at_stood).1 in
    let body = (c.stand.ensures.stays at_shut).body ∙ c.close_gate.ensures.body clean in
    let behind = c.in_ok-after.ensures.behind at_shut ∙ ap (λ (l : Text). l ++ with_gate c.args.line.now closed) (c.close_gate.ensures.pending clean) in
    let doubt = same_doubt stood new beside ∙ doubt_is stood (body_of old) (pending_of old) c.args.line.now body behind in
    ⊎_elim
    (λ keeps. inl (inl (subst (Keeps c') (beside.body ∙ body) keeps)))
    (λ other. inr (⊎_elim (λ all. inl (subst (Keeps c') doubt all)) (λ torn. inr (subst (IsTornAfter c') (beside.body ∙ body) torn)) other.1))
    (outcome new at_new c' may)

pub returns-clause-kept : goal.returns-clause-kept
returns-clause-kept g c = λ clean.
    let old = c.args.self.now in
    let stood = c.stand.new.self in
    let at_shut = subst IsTrue (sym c.close_gate.ensures.clean) clean in
    let at_stood = subst IsTrue (sym c.stand.ensures.clean) at_shut in
    let body = (c.stand.ensures.stays at_shut).body ∙ c.close_gate.ensures.body clean in
    let behind = c.in_ok-after.ensures.behind at_shut ∙ ap (λ (l : Text). l ++ with_gate c.args.line.now closed) (c.close_gate.ensures.pending clean) in
    c.in_ok-pass_gate.ensures.kept at_stood ∙ doubt_is stood (body_of old) (pending_of old) c.args.line.now body behind

pub returns-clause-crash : goal.returns-clause-crash
returns-clause-crash g c = λ clean c' may.
    let old = c.args.self.now in
    let stood = c.stand.new.self in
    let new = c.pass_gate.new.self in
    let at_shut = subst IsTrue (sym c.close_gate.ensures.clean) clean in
    let at_stood = subst IsTrue (sym c.stand.ensures.clean) at_shut in
    let at_new = subst IsTrue (sym c.pass_gate.ensures.clean) at_stood in
    let body = (c.stand.ensures.stays at_shut).body ∙ c.close_gate.ensures.body clean in
    let behind = c.in_ok-after.ensures.behind at_shut ∙ ap (λ (l : Text). l ++ with_gate c.args.line.now closed) (c.close_gate.ensures.pending clean) in
    let is = c.in_ok-pass_gate.ensures.kept at_stood ∙ doubt_is stood (body_of old) (pending_of old) c.args.line.now body behind in
    inr (inl (subst (Keeps c') is (((new.settled at_new).if_closed c.in_ok-pass_gate.ensures.closed).leaves c' may)))
