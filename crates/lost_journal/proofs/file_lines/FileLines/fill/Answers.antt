use Rattle.std.proofs.Common.{◌≡◌, ℕ, ◌+◌, length, take, drop, ◌++◌, IsTrue, sym, ◌∙◌, ap, subst, arith, rules}
use Rattle.std.proofs.lemmas.List.{take_rest}
use Rattle.lost_spec.specs.Text.{Text}
use Rattle.sqlite_disk.specs.Disk.{Holds}
use Rattle.lost_journal.proofs.ReadingLemmas.{piece_joined}
use Rattle.lost_journal.proofs.file_lines.FileLines.fill.Goals as goal

pub invariant_of-self-2-clause-buffered : goal.invariant_of-self-2-clause-buffered
invariant_of-self-2-clause-buffered g c = λ clean.
    let l = c.args.self.now in
    let s = l.buffered (c.read_piece.ensures.clean clean) in
    let same = c.read_piece.ensures.seen in
    let count : c.len.result ≡ length l.buffer.items = search rules in
    let holds = subst (λ (n : ℕ). Holds (g.D.Disk.seen l.disk) (l.start + n) c.in_ok-piece.piece.items) count (c.in_ok-piece.ensures.holds clean) in
    let is : c.in-Ok.buffer.items ≡ drop l.next l.buffer.items ++ c.in_ok-piece.piece.items =
    c.in-Ok.ensures ∙ ap (λ (t : Text). t ++ c.deref-2.result.now) (take_rest c.deref.result.now l.next ∙ ap (drop l.next) c.deref.ensures.value) ∙ ap (λ (t : Text). drop l.next l.buffer.items ++ t) c.deref-2.ensures.value in
    record {
      whole = s.whole ∙ ap length (sym same);
      only = λ c' may. s.only c' (c.read_piece.ensures.crash c' may) ∙ sym same;
      holds = subst (λ (b : Text). take (length c.in-Ok.buffer.items) (drop (l.start + l.next) b) ≡ c.in-Ok.buffer.items) (sym same)
          (piece_joined (g.D.Disk.seen l.disk) l.buffer.items c.in_ok-piece.piece.items c.in-Ok.buffer.items l.start l.next s.holds l.inside holds is);
    }
