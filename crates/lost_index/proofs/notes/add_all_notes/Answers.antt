-- One region more is noted, and at most that, and what was noted stays.
use Rattle.std.proofs.Common.{take_all, subst, arith}
use Rattle.lost_index.specs.Notes.{HaveNotes}
use Rattle.lost_index.proofs.NoteChangeLemmas.{HaveNotes-more}
use Rattle.lost_index.proofs.OnlyLemmas.{AddsAtMost-region}
use Rattle.lost_index.proofs.notes.add_all_notes.Goals as goal

pub loop-one-preserved : goal.loop-one-preserved
loop-one-preserved g c =
    let at = c.loop-one in record {
      noted = HaveNotes-more g.P.Key.PartialEq.eq g.P.Outline.PartialEq.eq g.P.Profile.cover_of g.P.Profile.outline_of c.args.number c.args.new.now at.one-index c.one-item.result
          at.cells c.add_notes_under.new.cells (omega arith) c.one-item.is at.invariant.noted c.in_ok-add_notes_under.ensures.keeps
          (rw (← c.outline.ensures) c.in_ok-add_notes_under.ensures.added);
      keeps = λ key number outline noted. c.in_ok-add_notes_under.ensures.keeps key number outline (at.invariant.keeps key number outline noted);
      only = AddsAtMost-region g.P.Key.PartialEq.eq g.P.Outline.PartialEq.eq c.args.cells.now at.cells c.add_notes_under.new.cells g.P.Profile.cover_of g.P.Profile.outline_of
          c.args.number c.args.new.now at.one-index c.one-item.result c.outline.result (omega arith) c.one-item.is c.outline.ensures at.invariant.only c.add_notes_under.ensures.only;
    }

pub returns-in_err-add_notes_under-clause-only : goal.returns-in_err-add_notes_under-clause-only
returns-in_err-add_notes_under-clause-only g c =
    AddsAtMost-region g.P.Key.PartialEq.eq g.P.Outline.PartialEq.eq c.args.cells.now c.loop-one.cells c.add_notes_under.new.cells g.P.Profile.cover_of g.P.Profile.outline_of
    c.args.number c.args.new.now c.loop-one.one-index c.one-item.result c.outline.result (omega arith) c.one-item.is c.outline.ensures c.loop-one.invariant.only
    c.add_notes_under.ensures.only

pub returns-clause-added : goal.returns-clause-added
returns-clause-added g c =
    subst (λ regions. HaveNotes g.P.Key.PartialEq.eq g.P.Outline.PartialEq.eq g.P.Profile.cover_of g.P.Profile.outline_of c.args.number regions c.loop-one.cells)
    (take_all c.loop-one.one-index c.args.new.now (omega arith)) c.loop-one.invariant.noted
