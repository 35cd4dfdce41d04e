-- Each step adds the polygon at the next position.
use Rattle.std.proofs.Common.{[], ◌∷◌, ◌++◌, sym, ap, ◌∙◌}
use Rattle.lost_profile.proofs.CoverLemmas.{take-next}
use Rattle.lost_regions.proofs.copies.polygons_of.Goals as goal

pub loop-position-preserved : goal.loop-position-preserved
loop-position-preserved c =
    c.in_ok-push.ensures.items
    ∙ ap (λ l. l ++ c.in_ok-of.field-0 ∷ []) c.loop-position.invariant
    ∙ sym (take-next c.args.mapping.now.regions.polygons c.loop-position.position c.in_ok-of.field-0 (sym c.in_ok-of.ensures))
