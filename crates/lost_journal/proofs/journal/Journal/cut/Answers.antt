use Rattle.std.proofs.Common.{◌≡◌, ◌≤◌, length, take, IsTrue, subst, sym, ◌∙◌, ap, arith}
use Rattle.std.proofs.lemmas.List.{take_all}
use Rattle.lost_journal.specs.Seen.{StaysBelow}
use Rattle.lost_journal.proofs.FrontLemmas.{front_of_cut}
use Rattle.lost_journal.proofs.SettledLemmas.{same_front, settled_cut}
use Rattle.lost_journal.proofs.journal.Journal.cut.Goals as goal

pub invariant_of-self : goal.invariant_of-self
invariant_of-self g c = record {
  least = c.args.self.now.least;
  settled = λ clean.
      let j = c.args.self.now in
      let before = subst IsTrue c.set_len.ensures.calm clean in
      let long : length (g.D.Disk.seen c.set_len.new.self) ≡ c.args.after = c.in-Ok.ensures.len in
      settled_cut (g.D.Disk.seen j.disk) (g.D.Disk.seen c.set_len.new.self) (g.D.Disk.may_leave j.disk) (g.D.Disk.may_leave c.set_len.new.self)
      j.kept j.before j.end j.tail c.args.after c.args.after j.gate c.requires.closed (j.settled before) c.set_len.ensures.others c.set_len.ensures.crash c.requires.behind (c.requires.within before) (omega arith);
}

pub invariant_of-self-in-Err-1 : goal.invariant_of-self-in-Err-1
invariant_of-self-in-Err-1 g c = record {
  least = c.args.self.now.least;
  settled = λ clean.
      let j = c.args.self.now in
      let before = subst IsTrue c.set_len.ensures.calm clean in
      let s = j.settled before in
      let fits = s.fits in
      let within = c.requires.within before in
      let shorter = c.set_len.ensures.others.no_longer in
      settled_cut (g.D.Disk.seen j.disk) (g.D.Disk.seen c.set_len.new.self) (g.D.Disk.may_leave j.disk) (g.D.Disk.may_leave c.set_len.new.self)
      j.kept j.before j.end j.tail j.tail c.args.after j.gate c.requires.closed s c.set_len.ensures.others c.set_len.ensures.crash c.requires.behind within (omega arith);
}

pub returns-in-Ok-clause-stays : goal.returns-in-Ok-clause-stays
returns-in-Ok-clause-stays g c = λ clean.
    let j = c.args.self.now in
    let s = j.settled clean in
    let f = same_front (g.D.Disk.seen j.disk) (g.D.Disk.seen c.set_len.new.self) j.kept j.before j.end s.first s.order (front_of_cut c.args.after j.end (g.D.Disk.seen j.disk) (g.D.Disk.seen c.set_len.new.self) c.set_len.ensures.others c.requires.behind s.within) in
    record { body = f.body; pending = f.pending; earlier = f.earlier }

pub returns-in-Ok-clause-cut : goal.returns-in-Ok-clause-cut
returns-in-Ok-clause-cut g c = λ clean.
    let j = c.args.self.now in
    let long : length (g.D.Disk.seen c.set_len.new.self) ≡ c.args.after = c.in-Ok.ensures.len in
    sym (take_all c.args.after (g.D.Disk.seen c.set_len.new.self) (omega arith))
    ∙ front_of_cut c.args.after c.args.after (g.D.Disk.seen j.disk) (g.D.Disk.seen c.set_len.new.self) c.set_len.ensures.others (omega arith) (c.requires.within clean)

pub returns-in-Err-clause-stays : goal.returns-in-Err-clause-stays
returns-in-Err-clause-stays g c = λ clean.
    let j = c.args.self.now in
    let s = j.settled clean in
    let f = same_front (g.D.Disk.seen j.disk) (g.D.Disk.seen c.set_len.new.self) j.kept j.before j.end s.first s.order (front_of_cut c.args.after j.end (g.D.Disk.seen j.disk) (g.D.Disk.seen c.set_len.new.self) c.set_len.ensures.others c.requires.behind s.within) in
    record { body = f.body; pending = f.pending; earlier = f.earlier }
