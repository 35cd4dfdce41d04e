use Rattle.std.proofs.Common.{◌≡◌, ◌+◌, ◌-◌, ◌<◌, [], ◌∷◌, ◌++◌, length, take, drop, sym, ◌∙◌, ap, subst, arith}
use Rattle.std.proofs.lemmas.List.{take_rest, length-drop}
use Rattle.lost_spec.specs.Text.{Text}
use Rattle.lost_lines.proofs.CuttingLemmas.{split_at_first}
use Rattle.lost_journal.proofs.ReadingLemmas.{line_found}
use Rattle.lost_journal.proofs.file_lines.FileLines.find.Goals as goal

pub returns-in-Some-clause-line : goal.returns-in-Some-clause-line
returns-in-Some-clause-line g c = λ found clean.
    let l = c.args.self.now in
    let inside = l.inside in
    let rest : take (length c.deref.result.now - l.next) (drop l.next c.deref.result.now) ≡ drop l.next l.buffer.items =
    take_rest c.deref.result.now l.next ∙ ap (drop l.next) c.deref.ensures.value in
    let first = c.in-Some.ensures in
    let high = first.0.high in
    let shown = take (length c.deref.result.now - l.next) (drop l.next c.deref.result.now) in
    let split = split_at_first shown c.in-Some.count high first.1 in
    line_found (g.D.Disk.seen l.disk) l.buffer.items l.start l.next c.in-Some.count (l.buffered clean).holds inside
    (subst (λ (t : Text). t ≡ (take c.in-Some.count t ++ 10 ∷ []) ++ drop (c.in-Some.count + 1) t) rest split) (subst (λ (t : Text). c.in-Some.count < length t) rest high)
