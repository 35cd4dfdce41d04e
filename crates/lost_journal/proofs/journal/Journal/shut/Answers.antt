use Rattle.std.proofs.Common.{◌≡◌, ◌∷◌, ◌++◌, IsTrue, List, ℕ, sym, ◌∙◌, ap, subst}
use Rattle.lost_spec.specs.Text.{Text}
use Rattle.sqlite_disk.specs.Disk.{Only}
use Rattle.lost_journal.specs.Format.{closed}
use Rattle.lost_journal.specs.Seen.{bytes_of, MayLeave, body_of, behind_of}
use Rattle.lost_journal.proofs.SettledLemmas.{settled_closed}
use Rattle.lost_journal.proofs.OutcomeLemmas.{outcome, beside_outcome, still, beside_again}
use Rattle.lost_journal.proofs.journal.Journal.shut.Goals as goal

pub returns-in_err-write_gate-clause-crash : goal.returns-in_err-write_gate-clause-crash
returns-in_err-write_gate-clause-crash g c = λ clean c' may.
    let old = c.args.self.now in
    let new = c.write_gate.new.self in
    beside_outcome old new c.write_gate.ensures.places.gate (c.write_gate.ensures.stays clean) c' (outcome new (subst IsTrue (sym c.write_gate.ensures.clean) clean) c' may)

pub returns-in_err-flush-clause-crash : goal.returns-in_err-flush-clause-crash
returns-in_err-flush-clause-crash g c = λ clean c' may.
    let old = c.args.self.now in
    let mid = c.write_gate.new.self in
    let new = c.flush.new.self in
    let stays = beside_again old mid new (c.write_gate.ensures.stays clean) (still mid new c.flush.ensures.places c.flush.ensures.seen).0 in
    let same = c.flush.ensures.places.gate ∙ c.write_gate.ensures.places.gate in
    beside_outcome old new same stays c' (outcome new (subst IsTrue (sym (c.flush.ensures.clean ∙ c.write_gate.ensures.clean)) clean) c' may)

pub invariant_of-self : goal.invariant_of-self
invariant_of-self g c = record {
  least = c.flush.new.self.least;
  settled = λ clean.
      let old = c.args.self.now in
      let mid = c.write_gate.new.self in
      let new = c.flush.new.self in
      let first = subst IsTrue (c.flush.ensures.clean ∙ c.write_gate.ensures.clean) clean in
      let stays = beside_again old mid new (c.write_gate.ensures.stays first) (still mid new c.flush.ensures.places c.flush.ensures.seen).0 in
      let is : bytes_of new ≡ body_of new ++ closed ∷ 10 ∷ behind_of new =
      c.flush.ensures.seen ∙ c.in_ok-write_gate.ensures.written first ∙ ap (λ (l : Text). l ++ closed ∷ 10 ∷ behind_of old) (sym stays.body) ∙ ap (λ (l : Text). body_of new ++ closed ∷ 10 ∷ l) (sym stays.behind) in
      let only : Only (bytes_of new) (MayLeave new) = subst (λ (l : Text). Only l (MayLeave new)) (sym c.flush.ensures.seen) c.in_ok-flush.ensures.durable in
      settled_closed (bytes_of new) (MayLeave new) new.kept new.before new.end new.tail new.gate (c.flush.ensures.places.gate ∙ c.write_gate.ensures.places.gate ∙ c.requires.unsure) (new.settled clean) is only;
}
