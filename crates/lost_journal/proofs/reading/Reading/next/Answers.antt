use Rattle.std.proofs.Common.{◌≡◌, ◌⊎◌, inl, inr, ⊎_elim, ℕ, ◌+◌, ◌-◌, ◌≤◌, true, IsTrue, length, take, drop, sym, ◌∙◌, ap, subst, arith, rules}
use Rattle.std.proofs.lemmas.List.{length-take}
use Rattle.lost_spec.specs.Text.{Text}
use Rattle.lost_journal.specs.Format.{is_commit, is_passed, gate_of_line}
use Rattle.lost_journal.specs.Lines.{line_read, read_so_far}
use Rattle.lost_journal.specs.Reading.{IsPassing}
use Rattle.lost_journal.specs.declared.reading.Progress.TheVariants.{Passing}
use Rattle.lost_journal.proofs.BodyLemmas.{passing_more, passed_by_kind, found_at, commit_long}
use Rattle.lost_journal.proofs.reading.Reading.next.Goals as goal

pub invariant_of-self-in-Edit-clause-passing : goal.invariant_of-self-in-Edit-clause-passing
invariant_of-self-in-Edit-clause-passing g c = λ is clean.
    let l = c.read_line.new.self in
    let was : c.args.self.now.progress ≡ Passing = search rules in
    let found : IsTrue c.in_ok-read_line.field-0 = search rules in
    let same = c.line.ensures in
    let kind = passed_by_kind c.line.result.now (⊎_elim (λ edit. inl (c.kind_of-read.ensures.edit edit)) (λ commit. inr (c.kind_of-read.ensures.open_gate commit)) c.in-Edit.is) in
    subst IsPassing (sym (c.in_ok-read_line.ensures.line found clean))
    (passing_more (read_so_far c.args.self.now.lines) (line_read l) (c.args.self.now.passing was (c.read_line.ensures.clean clean)) (c.in_ok-read_line.ensures.unbroken found) (subst (λ (t : Text). is_passed t ≡ true) same kind))

pub invariant_of-self-in-LastCommit-clause-least : goal.invariant_of-self-in-LastCommit-clause-least
invariant_of-self-in-LastCommit-clause-least g c = λ is.
    let l = c.read_line.new.self in
    let commit : is_commit (line_read l) ≡ true = ap is_commit (sym c.line.ensures) ∙ c.kind_of-read.ensures.last c.in-LastCommit.is in
    let long = commit_long (line_read l) commit in
    let size = length-take (l.to - l.from) (drop l.from l.buffer.items) in
    let line = l.line in
    let ends = l.ends in
    let place : c.place-self.result ≡ l.start + l.next = search rules in
    omega arith

pub invariant_of-self-in-LastCommit-clause-found : goal.invariant_of-self-in-LastCommit-clause-found
invariant_of-self-in-LastCommit-clause-found g c = λ is clean.
    let l = c.read_line.new.self in
    let was : c.args.self.now.progress ≡ Passing = search rules in
    let found : IsTrue c.in_ok-read_line.field-0 = search rules in
    let place : c.place-self.result ≡ l.start + l.next = search rules in
    let commit : is_commit (line_read l) ≡ true = ap is_commit (sym c.line.ensures) ∙ c.kind_of-read.ensures.last c.in-LastCommit.is in
    let gate = ap gate_of_line (sym c.line.ensures) ∙ c.kind_of-read.ensures.closed_gate c.in-LastCommit.is in
    let whole = (l.buffered clean).whole in
    let inside = l.inside in
    let within = l.within in
    let passing = c.args.self.now.passing was (c.read_line.ensures.clean clean) in
    (found_at (g.D.Disk.seen l.disk) (take (c.args.self.now.lines.start + c.args.self.now.lines.next) (g.D.Disk.seen c.args.self.now.lines.disk)) (line_read l) c.place-self.result (omega arith)
    (ap (λ (n : ℕ). take n (g.D.Disk.seen l.disk)) place ∙ c.in_ok-read_line.ensures.line found clean) passing (c.in_ok-read_line.ensures.unbroken found) commit gate).found

pub returns-in-LastCommit-clause-piece : goal.returns-in-LastCommit-clause-piece
returns-in-LastCommit-clause-piece g c = λ is clean.
    let l = c.read_line.new.self in
    let was : c.args.self.now.progress ≡ Passing = search rules in
    let found : IsTrue c.in_ok-read_line.field-0 = search rules in
    let place : c.place-self.result ≡ l.start + l.next = search rules in
    let commit : is_commit (line_read l) ≡ true = ap is_commit (sym c.line.ensures) ∙ c.kind_of-read.ensures.last c.in-LastCommit.is in
    let gate = ap gate_of_line (sym c.line.ensures) ∙ c.kind_of-read.ensures.closed_gate c.in-LastCommit.is in
    let whole = (l.buffered clean).whole in
    let inside = l.inside in
    let within = l.within in
    let passing = c.args.self.now.passing was (c.read_line.ensures.clean clean) in
    (found_at (g.D.Disk.seen l.disk) (take (c.args.self.now.lines.start + c.args.self.now.lines.next) (g.D.Disk.seen c.args.self.now.lines.disk)) (line_read l) c.place-self.result (omega arith)
    (ap (λ (n : ℕ). take n (g.D.Disk.seen l.disk)) place ∙ c.in_ok-read_line.ensures.line found clean) passing (c.in_ok-read_line.ensures.unbroken found) commit gate).piece
