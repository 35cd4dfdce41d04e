-- The kinds of the keys of one region more are marked, and in the end those of each.
use Rattle.std.proofs.Common.{All, take_all, subst, arith}
use Rattle.lost_index.specs.Kinds.{HasKindsOf}
use Rattle.lost_index.proofs.KindLemmas.{All-more_kept, HasKindsOf-kept}
use Rattle.lost_index.proofs.kinds.mark_covers.Goals as goal

pub loop-one-preserved : goal.loop-one-preserved
loop-one-preserved g c =
    let kind_of = g.P.Profile.kind_of in
    let cover_of = g.P.Profile.cover_of in
    let at = c.loop-one in
    let new = c.mark_keys.new.kinds in record {
      marked = All-more_kept (λ region. HasKindsOf kind_of at.kinds (cover_of region)) (λ region. HasKindsOf kind_of new (cover_of region))
          c.args.kept.now at.one-index c.one-item.result (omega arith) c.one-item.is
          (λ region. HasKindsOf-kept g.P.Profile.is_region cover_of kind_of at.kinds new (cover_of region) c.mark_keys.ensures.keeps) at.invariant.marked
          c.mark_keys.ensures.marked;
      keeps = λ kind was. c.mark_keys.ensures.keeps kind (at.invariant.keeps kind was);
    }

pub returns-clause-marked : goal.returns-clause-marked
returns-clause-marked g c =
    subst (All (λ region. HasKindsOf g.P.Profile.kind_of c.loop-one.kinds (g.P.Profile.cover_of region)))
    (take_all c.loop-one.one-index c.args.kept.now (omega arith)) c.loop-one.invariant.marked
