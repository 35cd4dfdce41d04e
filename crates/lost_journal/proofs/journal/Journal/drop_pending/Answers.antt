use Rattle.std.proofs.Common.{◌≡◌, ◌≤◌, ℕ, ◌-◌, [], take, drop, IsTrue, sym, ◌∙◌, ap, subst, arith}
use Rattle.lost_spec.specs.Text.{Text}
use Rattle.lost_journal.specs.Format.{AreEdits}
use Rattle.lost_journal.proofs.BodyLemmas.{no_edits}
use Rattle.lost_journal.proofs.journal.Journal.drop_pending.Goals as goal

pub invariant_of-self : goal.invariant_of-self
invariant_of-self g c = record {
  least = c.args.self.now.least;
  settled = λ clean.
      let j = c.args.self.now in
      let s = j.settled clean in
      let first = s.first in
      let order = s.order in
      let within = s.within in
      let none : j.kept - j.kept ≡ 0 = omega arith in
      let empty : AreEdits (take (j.kept - j.kept) (drop j.kept (g.D.Disk.seen j.disk))) = subst (λ (n : ℕ). AreEdits (take n (drop j.kept (g.D.Disk.seen j.disk)))) (sym none) no_edits in
      record {
        least = s.least;
        first = omega arith;
        order = omega arith;
        within = omega arith;
        fits = s.fits;
        body = s.body;
        pending = empty;
        earlier = empty;
        if_closed = s.if_closed;
        if_unsure = s.if_unsure;
      };
}
