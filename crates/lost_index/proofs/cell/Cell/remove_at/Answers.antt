-- The note at the position is taken out where it does not stay, and not else; the numbers rise without it.
use Rattle.std.proofs.Common.{◌≡◌, true, false, remove, refl, sym, ap, subst, length, ◌<◌, ◌∙◌}
use Rattle.std.proofs.lemmas.List.Quantifiers.{all_pairs_remove}
use Rattle.lost_index.specs.Notes.{number_of, is_note, stays}
use Rattle.lost_index.proofs.RemovalLemmas.{rising-remove, tested_there}
use Rattle.lost_index.proofs.cell.Cell.remove_at.Goals as goal

pub invariant_of-self : goal.invariant_of-self
invariant_of-self g c =
    let notes = c.self.inside.notes.items in
    let within : c.args.position < length notes = subst (λ l. c.args.position < length l) c.deref.ensures.value c.in-Some.ensures.lookup.3.0 in
    rw c.remove.ensures.items (record {
      rising = rising-remove number_of notes c.args.position within c.self.invariant.rising;
      distinct = all_pairs_remove (λ note later. is_note g.P.Outline.PartialEq.eq note.number note.outline later ≡ false) notes c.args.position within c.self.invariant.distinct;
    })

pub returns-then-not-is_kept : goal.returns-then-not-is_kept
returns-then-not-is_kept g c =
    rw (← c.self.view_is, ← c.deref.ensures.value)
    (tested_there (stays g.P.Key.PartialEq.eq g.P.Outline.PartialEq.eq g.P.Profile.cover_of g.P.Profile.outline_of c.args.number c.args.remaining.now c.args.key.now)
    c.deref.result.now c.remove.new.self.items c.args.position c.in-Some.note.now false c.in-Some.ensures.lookup.3.0 c.in-Some.ensures.lookup.1
    (sym c.is_kept.ensures ∙ c.if-not-is_kept.true) (c.remove.ensures.items ∙ ap (λ l. remove l c.args.position) (sym c.deref.ensures.value)))

pub returns-else-not-is_kept : goal.returns-else-not-is_kept
returns-else-not-is_kept g c =
    rw (← c.self.view_is, ← c.deref.ensures.value)
    (tested_there (stays g.P.Key.PartialEq.eq g.P.Outline.PartialEq.eq g.P.Profile.cover_of g.P.Profile.outline_of c.args.number c.args.remaining.now c.args.key.now)
    c.deref.result.now c.deref.result.now c.args.position c.in-Some.note.now true c.in-Some.ensures.lookup.3.0 c.in-Some.ensures.lookup.1
    (sym c.is_kept.ensures ∙ c.if-not-is_kept.false) refl)
