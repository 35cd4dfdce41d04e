-- Under the keys of one region more the number is noted for the regions that remain alone.
use Rattle.std.proofs.Common.{◌+◌, take, arith}
use Rattle.std.specs.List.{list_any}
use Rattle.lost_index.specs.Notes.{covers}
use Rattle.lost_index.proofs.OnlyLemmas.{TakesBack-two, TakesOut-two, any-next}
use Rattle.lost_index.proofs.notes.remove_notes.Goals as goal

pub loop-one-preserved : goal.loop-one-preserved
loop-one-preserved g c =
    let eq = g.P.Key.PartialEq.eq in
    let at = c.loop-one in
    let taken = c.remove_notes_under.ensures in record {
      taken = TakesOut-two eq g.P.Outline.PartialEq.eq c.args.cells.now at.cells c.remove_notes_under.new.cells g.P.Profile.cover_of g.P.Profile.outline_of c.args.number c.args.remaining.now
          (covers eq g.P.Profile.cover_of (take at.one-index c.args.gone.now)) (λ key. list_any (eq key) (g.P.Profile.cover_of c.one-item.result))
          (covers eq g.P.Profile.cover_of (take (at.one-index + 1) c.args.gone.now)) at.invariant.taken taken.taken taken.fewer.noted
          (λ key. any-next (λ region. list_any (eq key) (g.P.Profile.cover_of region)) c.args.gone.now at.one-index c.one-item.result (omega arith) c.one-item.is);
      fewer = TakesBack-two eq g.P.Outline.PartialEq.eq c.args.cells.now at.cells c.remove_notes_under.new.cells at.invariant.fewer taken.fewer;
    }
