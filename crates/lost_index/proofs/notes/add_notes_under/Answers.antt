-- One key more is noted, and it is one of the cover.
use Rattle.std.proofs.Common.{All, take_all, subst, arith}
use Rattle.lost_profile.proofs.CoverLemmas.{found_at, take-to_end}
use Rattle.lost_index.specs.Notes.{HasNote}
use Rattle.lost_index.proofs.KindLemmas.{All-more_kept}
use Rattle.lost_index.proofs.OnlyLemmas.{AddsAtMost-key}
use Rattle.lost_index.proofs.notes.add_notes_under.Goals as goal

pub loop-position-preserved : goal.loop-position-preserved
loop-position-preserved g c =
    let cover = g.P.Profile.cover_of c.args.one.now in
    let at = c.loop-position in
    let found = found_at cover at.position c.in-Some.key c.in-Some.ensures in record {
      noted = All-more_kept (λ k. HasNote g.P.Key.PartialEq.eq g.P.Outline.PartialEq.eq at.cells k c.args.note.number c.args.note.outline)
          (λ k. HasNote g.P.Key.PartialEq.eq g.P.Outline.PartialEq.eq c.add_note.new.cells k c.args.note.number c.args.note.outline)
          cover at.position c.in-Some.key found.0 found.1 (λ k. c.add_note.ensures.keeps k c.args.note.number c.args.note.outline) at.invariant.noted c.in_ok-add_note.ensures.added;
      keeps = λ k number outline noted. c.add_note.ensures.keeps k number outline (at.invariant.keeps k number outline noted);
      only = AddsAtMost-key g.P.Key.PartialEq.eq g.P.Outline.PartialEq.eq c.args.cells.now at.cells c.add_note.new.cells c.args.note.number c.args.note.outline
          cover at.position c.in-Some.key found at.invariant.only c.add_note.ensures.only;
    }

pub returns-in_err-add_note-clause-only : goal.returns-in_err-add_note-clause-only
returns-in_err-add_note-clause-only g c =
    let cover = g.P.Profile.cover_of c.args.one.now in
    AddsAtMost-key g.P.Key.PartialEq.eq g.P.Outline.PartialEq.eq c.args.cells.now c.loop-position.cells c.add_note.new.cells c.args.note.number c.args.note.outline
    cover c.loop-position.position c.in-Some.key (found_at cover c.loop-position.position c.in-Some.key c.in-Some.ensures) c.loop-position.invariant.only c.add_note.ensures.only

pub returns-in_default-clause-added : goal.returns-in_default-clause-added
returns-in_default-clause-added g c =
    subst (All (λ key. HasNote g.P.Key.PartialEq.eq g.P.Outline.PartialEq.eq c.loop-position.cells key c.args.note.number c.args.note.outline))
    (take-to_end (g.P.Profile.cover_of c.args.one.now) c.loop-position.position c.in_default.ensures) c.loop-position.invariant.noted

pub returns-clause-added : goal.returns-clause-added
returns-clause-added g c =
    subst (All (λ key. HasNote g.P.Key.PartialEq.eq g.P.Outline.PartialEq.eq c.loop-position.cells key c.args.note.number c.args.note.outline))
    (take_all c.loop-position.position (g.P.Profile.cover_of c.args.one.now) (omega (arith, c.key_room-position-end.ensures))) c.loop-position.invariant.noted
