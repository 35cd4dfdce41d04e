use Rattle.std.proofs.Common.{◌≡◌, ◌+◌, ◌≤◌, ◌++◌, ℕ, length, IsTrue, refl, sym, ◌∙◌, ap, subst, arith, rules}
use Rattle.lost_spec.specs.Text.{Text}
use Rattle.sqlite_disk.specs.Disk.{Only}
use Rattle.lost_journal.specs.Format.{with_gate, closed}
use Rattle.lost_journal.specs.Seen.{bytes_of, MayLeave, behind_of, pending_of}
use Rattle.lost_journal.proofs.SettledLemmas.{settled_stands}
use Rattle.lost_journal.proofs.OutcomeLemmas.{still, stood}
use Rattle.lost_journal.proofs.journal.Journal.stand.Goals as goal

pub invariant_of-self : goal.invariant_of-self
invariant_of-self g c = record {
  least = c.flush.new.self.least;
  settled = λ clean.
      let old = c.args.self.now in
      let p = c.put.new.self in
      let q = c.cut.new.self in
      let n = c.flush.new.self in
      let at_cut = subst IsTrue c.flush.ensures.clean clean in
      let at_put = subst IsTrue c.cut.ensures.clean at_cut in
      let at_start = subst IsTrue c.put.ensures.clean at_put in
      let shut = c.flush.ensures.places.gate ∙ c.cut.ensures.places.gate ∙ c.put.ensures.places.gate ∙ c.requires.closed in
      let pending = (still q n c.flush.ensures.places c.flush.ensures.seen).1.pending ∙ (c.cut.ensures.stays at_put).pending ∙ (c.put.ensures.stays at_start).pending in
      let only : Only (bytes_of n) (MayLeave n) = subst (λ (l : Text). Only l (MayLeave n)) (sym c.flush.ensures.seen) c.in_ok-flush.ensures.durable in
      let s = old.settled at_start in
      let first = s.first in
      let order = s.order in
      let ends = c.put.ensures.places.end in
      let behind : behind_of n ≡ pending_of old ++ with_gate c.args.line.now closed =
      stood old p c.cut.new.self n c.args.text.now (p.end + length c.args.text.now) c.put.ensures.places c.cut.ensures.places c.flush.ensures.places
      (c.in_ok-put.ensures.written at_start) refl (c.in_ok-cut.ensures.cut (subst IsTrue (sym c.put.ensures.clean) at_start)) c.flush.ensures.seen (omega arith)
      ∙ ap (λ (l : Text). pending_of old ++ l) c.requires.text in
      settled_stands (bytes_of n) (MayLeave n) n.kept n.before n.end n.tail n.gate shut (n.settled clean) only c.args.line.now c.requires.unbroken c.requires.commit
      (behind ∙ ap (λ (l : Text). l ++ with_gate c.args.line.now closed) (sym pending));
}

pub returns-clause-behind : goal.returns-clause-behind
returns-clause-behind g c = λ clean.
    let old = c.args.self.now in
    let p = c.put.new.self in
    let s = old.settled clean in
    let first = s.first in
    let order = s.order in
    let ends = c.put.ensures.places.end in
    stood old p c.cut.new.self c.flush.new.self c.args.text.now (p.end + length c.args.text.now) c.put.ensures.places c.cut.ensures.places c.flush.ensures.places
    (c.in_ok-put.ensures.written clean) refl (c.in_ok-cut.ensures.cut (subst IsTrue (sym c.put.ensures.clean) clean)) c.flush.ensures.seen (omega arith)
    ∙ ap (λ (l : Text). pending_of old ++ l) c.requires.text
