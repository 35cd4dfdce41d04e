use Rattle.std.proofs.Common.{◌-◌, ◌≡◌, IsTrue, subst, sym, ◌∙◌, ap, arith}
use Rattle.lost_journal.specs.Seen.{StaysBeside}
use Rattle.lost_journal.proofs.SettledLemmas.{beside, settled_gate, gate_written}
use Rattle.lost_journal.proofs.journal.Journal.write_gate.Goals as goal

pub invariant_of-self : goal.invariant_of-self
invariant_of-self g c = record {
  least = c.args.self.now.least;
  settled = λ clean.
      let j = c.args.self.now in
      settled_gate (g.D.Disk.seen j.disk) (g.D.Disk.may_leave j.disk) j.kept j.before j.end j.tail j.gate c.requires.unsure
      (g.D.Disk.seen c.write_at.new.self) (g.D.Disk.may_leave c.write_at.new.self) (j.settled (subst IsTrue c.write_at.ensures.calm clean)) c.write_at.ensures.others c.write_at.ensures.crash;
}

pub returns-in-Ok-clause-stays : goal.returns-in-Ok-clause-stays
returns-in-Ok-clause-stays g c = λ clean.
    let j = c.args.self.now in
    let b = beside (g.D.Disk.seen j.disk) (g.D.Disk.may_leave j.disk) j.kept j.before j.end j.tail j.gate c.requires.unsure (g.D.Disk.seen c.write_at.new.self) (j.settled clean) c.write_at.ensures.others in
    record { body = b.body; behind = b.behind }

pub returns-in-Ok-clause-written : goal.returns-in-Ok-clause-written
returns-in-Ok-clause-written g c = λ clean.
    let j = c.args.self.now in
    gate_written (g.D.Disk.seen j.disk) (g.D.Disk.may_leave j.disk) j.kept j.before j.end j.tail j.gate c.requires.unsure (g.D.Disk.seen c.write_at.new.self) c.args.gate (j.settled clean) c.write_at.ensures.others (c.in-Ok.ensures.written (omega arith))

pub returns-in-Err-clause-stays : goal.returns-in-Err-clause-stays
returns-in-Err-clause-stays g c = λ clean.
    let j = c.args.self.now in
    let b = beside (g.D.Disk.seen j.disk) (g.D.Disk.may_leave j.disk) j.kept j.before j.end j.tail j.gate c.requires.unsure (g.D.Disk.seen c.write_at.new.self) (j.settled clean) c.write_at.ensures.others in
    record { body = b.body; behind = b.behind }
