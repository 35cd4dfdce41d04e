-- One key more is pushed, and in the end those so far are all.
use Rattle.std.proofs.Common.{ap, sym, ◌++◌, ◌∷◌, [], take_all, ◌∙◌, arith}
use Rattle.lost_profile.proofs.CoverLemmas.{take-next, take-to_end}
use Rattle.lost_profile.proofs.profile.Profile.cover.Goals as goal

pub returns-in_default-clause-keys : goal.returns-in_default-clause-keys
returns-in_default-clause-keys g c =
    c.loop-position.invariant ∙ take-to_end (g.Self.Profile.cover_of c.args.region.now) c.loop-position.position c.in_default.ensures

pub loop-position-preserved : goal.loop-position-preserved
loop-position-preserved g c =
    c.in_ok-push.ensures.items ∙ ap (λ keys. keys ++ c.in-Some.key ∷ []) c.loop-position.invariant
    ∙ sym (take-next (g.Self.Profile.cover_of c.args.region.now) c.loop-position.position c.in-Some.key c.in-Some.ensures)

pub returns-clause-keys : goal.returns-clause-keys
returns-clause-keys g c =
    let bound = g.met.Self.Profile.cover_is_bounded c.args.region.now c.outline-outline.ensures.is_region in
    c.loop-position.invariant ∙ take_all c.loop-position.position (g.Self.Profile.cover_of c.args.region.now) (omega arith)
