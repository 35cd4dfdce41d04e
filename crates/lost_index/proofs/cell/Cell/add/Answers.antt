-- The other notes stand behind and before, and none of them is the new one.
use Rattle.std.proofs.Common.{◌≡◌, false, get_or, sym, subst, arith, ◌∙◌}
use Rattle.std.proofs.lemmas.List.Sorted.{IsNonDecreasingBy-insert}
use Rattle.lost_index.specs.Notes.{number_of, is_note, has_note, IsCell}
use Rattle.lost_index.proofs.DistinctLemmas.{all_pairs_insert, none_passes, alike_either_way}
use Rattle.lost_index.proofs.NoteLemmas.{stands-insert, stands-insert_back}
use Rattle.lost_index.proofs.cell.Cell.add.Goals as goal

pub returns-clause-keeps : goal.returns-clause-keeps
returns-clause-keeps g c = λ number outline stands.
    rw c.in_ok-insert_note.ensures.items
    (stands-insert (is_note g.P.Outline.PartialEq.eq number outline) c.self.inside.notes.items c.end_of-position.result c.args.note (rw c.self.view_is stands))

pub returns-clause-only : goal.returns-clause-only
returns-clause-only g c = λ number outline stands.
    rw (← c.self.view_is)
    (stands-insert_back (is_note g.P.Outline.PartialEq.eq number outline) c.self.inside.notes.items c.end_of-position.result c.args.note
    (rw (← c.in_ok-insert_note.ensures.items) stands))

pub invariant_of-self-2 : goal.invariant_of-self-2
invariant_of-self-2 g c =
    let same = g.P.Outline.PartialEq.eq in
    let notes = c.args.self.now in
    let note = c.args.note in
    let place = c.end_of-position in
    let cell : IsCell same notes = subst (IsCell same) c.self.view_is c.self.invariant in
    let none : has_note same note.number note.outline notes ≡ false = sym c.has.ensures ∙ c.if-has.false in
    rw (c.in_ok-insert_note.ensures.items, c.self.view_is) (record {
      rising = IsNonDecreasingBy-insert number_of notes place.result note cell.rising place.ensures.within
          (λ k d front. place.ensures.point.0 k d (omega arith) front)
          (λ k d behind within. omega (arith, place.ensures.point.1 k d behind within));
      distinct = all_pairs_insert (λ one later. is_note same one.number one.outline later ≡ false) notes place.result note place.ensures.within cell.distinct
          (λ k d front. alike_either_way same g.met.P.Outline.Eq.laws.symm (get_or notes k d) note
          ∙ none_passes (is_note same note.number note.outline) notes none k d (omega (arith, front, place.ensures.within)))
          (λ k d behind within. none_passes (is_note same note.number note.outline) notes none k d within);
    })
