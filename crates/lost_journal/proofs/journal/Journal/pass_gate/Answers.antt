use Rattle.std.proofs.Common.{◌≡◌, IsTrue, sym, ◌∙◌, subst}
use Rattle.lost_journal.proofs.OutcomeLemmas.{passed_gate}
use Rattle.lost_journal.proofs.journal.Journal.pass_gate.Goals as goal

pub invariant_of-self : goal.invariant_of-self
invariant_of-self g c = record {
  least = c.requires.least;
  settled = λ clean.
      let first = subst IsTrue (c.flush.ensures.clean ∙ c.write_gate.ensures.clean) clean in
      (passed_gate c.args.self.now c.write_gate.new.self c.flush.new.self c.args.after c.requires.unsure c.write_gate.ensures.places c.flush.ensures.places (c.write_gate.ensures.stays first)
      (c.in_ok-write_gate.ensures.written first) c.flush.ensures.seen c.in_ok-flush.ensures.durable first clean (c.requires.ends first) c.requires.least).0.settled;
}

pub returns-clause-kept : goal.returns-clause-kept
returns-clause-kept g c = λ clean.
    let all = passed_gate c.args.self.now c.write_gate.new.self c.flush.new.self c.args.after c.requires.unsure c.write_gate.ensures.places c.flush.ensures.places (c.write_gate.ensures.stays clean)
    (c.in_ok-write_gate.ensures.written clean) c.flush.ensures.seen c.in_ok-flush.ensures.durable clean (subst IsTrue (sym (c.flush.ensures.clean ∙ c.write_gate.ensures.clean)) clean) (c.requires.ends clean) c.requires.least in
    all.0.body ∙ all.1
