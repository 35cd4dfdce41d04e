-- The kind of one key more is marked, and in the end that of each.
use Rattle.std.proofs.Common.{◌≡◌, true, take_all, subst, arith}
use Rattle.lost_profile.proofs.CoverLemmas.{found_at, take-to_end}
use Rattle.lost_index.specs.Kinds.{has_kind, HasKindsOf}
use Rattle.lost_index.proofs.KindLemmas.{All-more_kept}
use Rattle.lost_index.proofs.kinds.mark_keys.Goals as goal

pub loop-position-preserved : goal.loop-position-preserved
loop-position-preserved g c =
    let kind_of = g.P.Profile.kind_of in
    let cover = g.P.Profile.cover_of c.args.one.now in
    let at = c.loop-position in
    let new = c.mark.new.self in
    let found = found_at cover at.position c.in-Some.key c.in-Some.ensures in record {
      marked = All-more_kept (λ key. has_kind at.kinds (kind_of key) ≡ true) (λ key. has_kind new (kind_of key) ≡ true)
          cover at.position c.in-Some.key found.0 found.1 (λ key. c.mark.ensures.keeps (kind_of key)) at.invariant.marked
          (subst (λ kind. has_kind new kind ≡ true) c.key_kind.ensures.kind c.mark.ensures.marked);
      keeps = λ kind was. c.mark.ensures.keeps kind (at.invariant.keeps kind was);
    }

pub returns-in_default-clause-marked : goal.returns-in_default-clause-marked
returns-in_default-clause-marked g c =
    let cover = g.P.Profile.cover_of c.args.one.now in
    subst (HasKindsOf g.P.Profile.kind_of c.loop-position.kinds) (take-to_end cover c.loop-position.position c.in_default.ensures) c.loop-position.invariant.marked

pub returns-clause-marked : goal.returns-clause-marked
returns-clause-marked g c =
    let cover = g.P.Profile.cover_of c.args.one.now in
    subst (HasKindsOf g.P.Profile.kind_of c.loop-position.kinds) (take_all c.loop-position.position cover (omega (arith, c.key_room-position-end.ensures))) c.loop-position.invariant.marked
