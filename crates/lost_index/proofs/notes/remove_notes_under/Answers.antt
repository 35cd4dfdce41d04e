-- Under one key more the number is noted for the regions that remain alone.
use Rattle.std.proofs.Common.{◌+◌, take, take_all, subst, arith}
use Rattle.std.specs.List.{list_any}
use Rattle.lost_profile.proofs.CoverLemmas.{found_at, take-to_end}
use Rattle.lost_index.specs.Notes.{TakesOut}
use Rattle.lost_index.proofs.OnlyLemmas.{TakesBack-two, TakesOut-two, any-next}
use Rattle.lost_index.proofs.notes.remove_notes_under.Goals as goal

pub loop-position-preserved : goal.loop-position-preserved
loop-position-preserved g c =
    let eq = g.P.Key.PartialEq.eq in
    let cover = g.P.Profile.cover_of c.args.one.now in
    let at = c.loop-position in
    let found = found_at cover at.position c.in-Some.key c.in-Some.ensures in record {
      taken = TakesOut-two eq g.P.Outline.PartialEq.eq c.args.cells.now at.cells c.remove_note.new.cells g.P.Profile.cover_of g.P.Profile.outline_of c.args.number c.args.remaining.now
          (λ k. list_any (eq k) (take at.position cover)) (λ k. eq k c.in-Some.key) (λ k. list_any (eq k) (take (at.position + 1) cover))
          at.invariant.taken c.remove_note.ensures.taken c.remove_note.ensures.fewer.noted
          (λ k. any-next (eq k) cover at.position c.in-Some.key found.0 found.1);
      fewer = TakesBack-two eq g.P.Outline.PartialEq.eq c.args.cells.now at.cells c.remove_note.new.cells at.invariant.fewer c.remove_note.ensures.fewer;
    }

pub returns-in_default-clause-taken : goal.returns-in_default-clause-taken
returns-in_default-clause-taken g c =
    let cover = g.P.Profile.cover_of c.args.one.now in
    subst (λ keys. TakesOut g.P.Key.PartialEq.eq g.P.Outline.PartialEq.eq g.P.Profile.cover_of g.P.Profile.outline_of c.args.number c.args.remaining.now
    (λ k. list_any (g.P.Key.PartialEq.eq k) keys) c.args.cells.now c.loop-position.cells)
    (take-to_end cover c.loop-position.position c.in_default.ensures) c.loop-position.invariant.taken

pub returns-clause-taken : goal.returns-clause-taken
returns-clause-taken g c =
    let cover = g.P.Profile.cover_of c.args.one.now in
    subst (λ keys. TakesOut g.P.Key.PartialEq.eq g.P.Outline.PartialEq.eq g.P.Profile.cover_of g.P.Profile.outline_of c.args.number c.args.remaining.now
    (λ k. list_any (g.P.Key.PartialEq.eq k) keys) c.args.cells.now c.loop-position.cells)
    (take_all c.loop-position.position cover (omega (arith, c.key_room-position-end.ensures))) c.loop-position.invariant.taken
