use Rattle.std.proofs.Common.{ℕ, ◌+◌, ◌≤◌, ◌≡◌, length, IsTrue, subst, sym, arith, rules}
use Rattle.lost_journal.specs.Seen.{StaysBelow, IsPut}
use Rattle.lost_journal.specs.State.{IsSettled}
use Rattle.lost_journal.proofs.FrontLemmas.{front_of_torn}
use Rattle.lost_journal.proofs.SettledLemmas.{same_front, settled_put, put_written}
use Rattle.lost_journal.proofs.journal.Journal.put.Goals as goal

pub invariant_of-self : goal.invariant_of-self
invariant_of-self g c = record {
  least = c.args.self.now.least;
  settled = λ clean.
      let s = c.args.self.now.settled (subst IsTrue c.write_at.ensures.calm clean) in
      settled_put (g.D.Disk.seen c.args.self.now.disk) (g.D.Disk.seen c.write_at.new.self) (g.D.Disk.may_leave c.args.self.now.disk) (g.D.Disk.may_leave c.write_at.new.self)
      c.args.self.now.kept c.args.self.now.before c.args.self.now.end c.args.self.now.tail c.max-self.result (length c.args.bytes.now) c.args.self.now.gate c.requires.closed s
      c.write_at.ensures.others c.write_at.ensures.crash (search rules) (search rules);
}

pub returns-in-Ok-clause-stays : goal.returns-in-Ok-clause-stays
returns-in-Ok-clause-stays g c = λ clean.
    let s = c.args.self.now.settled clean in
    let inside = s.within in
    let f = same_front (g.D.Disk.seen c.args.self.now.disk) (g.D.Disk.seen c.write_at.new.self) c.args.self.now.kept c.args.self.now.before c.args.self.now.end s.first s.order (front_of_torn c.args.self.now.end (length c.args.bytes.now) c.args.self.now.end (g.D.Disk.seen c.args.self.now.disk) (g.D.Disk.seen c.write_at.new.self) c.write_at.ensures.others (omega arith) inside) in
    record { body = f.body; pending = f.pending; earlier = f.earlier }

pub returns-in-Ok-clause-written : goal.returns-in-Ok-clause-written
returns-in-Ok-clause-written g c = λ clean.
    let s = c.args.self.now.settled clean in
    let inside = s.within in
    let first = s.first in
    let order = s.order in
    let holds = c.in-Ok.ensures.written c.requires.some in
    let front = front_of_torn c.args.self.now.end (length c.args.bytes.now) c.args.self.now.end (g.D.Disk.seen c.args.self.now.disk) (g.D.Disk.seen c.write_at.new.self) c.write_at.ensures.others (omega arith) inside in
    record {
      within = holds.within;
      written = put_written (g.D.Disk.seen c.args.self.now.disk) (g.D.Disk.seen c.write_at.new.self) c.args.bytes.now c.args.self.now.kept c.args.self.now.end (omega arith) front holds;
    }

pub returns-in-Err-clause-stays : goal.returns-in-Err-clause-stays
returns-in-Err-clause-stays g c = λ clean.
    let s = c.args.self.now.settled clean in
    let inside = s.within in
    let f = same_front (g.D.Disk.seen c.args.self.now.disk) (g.D.Disk.seen c.write_at.new.self) c.args.self.now.kept c.args.self.now.before c.args.self.now.end s.first s.order (front_of_torn c.args.self.now.end (length c.args.bytes.now) c.args.self.now.end (g.D.Disk.seen c.args.self.now.disk) (g.D.Disk.seen c.write_at.new.self) c.write_at.ensures.others (omega arith) inside) in
    record { body = f.body; pending = f.pending; earlier = f.earlier }
