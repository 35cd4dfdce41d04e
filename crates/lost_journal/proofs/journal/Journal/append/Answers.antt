use Rattle.std.proofs.Common.{◌≡◌, ◌+◌, ◌≤◌, ◌∷◌, [], ◌++◌, ℕ, length, IsTrue, sym, ◌∙◌, ap, subst, arith, rules}
use Rattle.lost_spec.specs.Text.{Text}
use Rattle.lost_lines.specs.Cutting.{newline}
use Rattle.lost_journal.specs.Format.{AreEdits}
use Rattle.lost_journal.specs.Seen.{bytes_of, pending_of}
use Rattle.lost_journal.specs.State.{pending_in, IsClosed}
use Rattle.lost_journal.proofs.BodyLemmas.{edits_grow}
use Rattle.lost_journal.proofs.OutcomeLemmas.{outcome}
use Rattle.lost_journal.proofs.journal.Journal.append.Goals as goal

pub returns-then-is_commit-clause-crash : goal.returns-then-is_commit-clause-crash
returns-then-is_commit-clause-crash g c = λ clean c' may. outcome c.args.self.now clean c' may

pub returns-in_default-clause-crash : goal.returns-in_default-clause-crash
returns-in_default-clause-crash g c = λ clean c' may. outcome c.args.self.now clean c' may

pub invariant_of-self : goal.invariant_of-self
invariant_of-self g c = record {
  least = c.put.new.self.least;
  settled = λ clean.
      let mid = c.close_gate.new.self in
      let new = c.put.new.self in
      let before : IsTrue (g.D.Disk.is_clean mid.disk) = subst IsTrue c.put.ensures.clean clean in
      let s = new.settled clean in
      let put = c.in_ok-put.ensures.written before in
      let stays = c.put.ensures.stays before in
      let count : c.len.result ≡ length c.deref.result.now = search rules in
      let within = put.within in
      let old = s.pending in
      let grown : AreEdits (pending_of mid ++ (c.args.line.now ++ newline ∷ [])) = edits_grow (pending_of mid) c.args.line.now (subst AreEdits stays.pending old) (search rules) (search rules) in
      let text : c.deref.result.now ≡ c.args.line.now ++ newline ∷ [] = search rules in
      let is : pending_in (bytes_of new) new.kept (new.end + c.len.result) ≡ pending_of mid ++ (c.args.line.now ++ newline ∷ []) =
      ap (λ (n : ℕ). pending_in (bytes_of new) new.kept (new.end + n)) count ∙ put.written ∙ ap (λ (l : Text). pending_of mid ++ l) text in
      let first = s.first in
      let order = s.order in
      record {
        least = s.least;
        first = omega arith;
        order = omega arith;
        within = omega arith;
        fits = s.fits;
        body = s.body;
        pending = subst AreEdits (sym is) grown;
        earlier = s.pending;
        if_closed = s.if_closed;
        if_unsure = s.if_unsure;
      };
}
