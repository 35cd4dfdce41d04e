use Rattle.std.proofs.Common.{rules, ◌≡◌, sym, ap, subst, ◌∙◌}
use Rattle.lost_regions.specs.UnderNumber.{IsHeldWith}
use Rattle.lost_regions.proofs.UnderNumberLemmas.{is_held, grown, growth_undone}
use Rattle.lost_regions.proofs.RegionLemmas.{same_lists}
use Rattle.lost_regions.proofs.regions.Regions.grow.Goals as goal

pub add-requires : goal.add-requires
add-requires c =
    is_held c.args.number c.args.old.now.regions.polygons c.self.inside.points
    (subst (IsHeldWith c.args.number c.args.old.now.regions.polygons) (sym (ap (λ r. r.points) c.self.view_is)) c.requires.points)

pub keep_first_polygons-requires : goal.keep_first_polygons-requires
keep_first_polygons-requires c =
    let back : c.self-2.inside.points ≡ c.add.new.self = search rules in
    grown c.args.number c.args.old.now.regions.polygons c.in_ok-polygons_of.field-0.items _ _ c.self.inside.points c.self-2.inside.points
    (subst (IsHeldWith c.args.number c.args.old.now.regions.polygons) (sym (ap (λ r. r.points) c.self.view_is)) c.requires.points)
    (back ∙ c.in_ok-add.ensures.added) c.polygons.ensures
    (c.polygons-then-is_err.ensures ∙ sym c.in_ok-polygons_of.ensures)

pub returns-then-is_err-clause-refused : goal.returns-then-is_err-clause-refused
returns-then-is_err-clause-refused c =
    let back : c.self-2.inside.points ≡ c.add.new.self = search rules in
    let addresses : c.self-2.inside.addresses ≡ c.self.inside.addresses = search rules in
    let references : c.self-2.inside.references ≡ c.self.inside.references = search rules in
    let tokens : c.self-2.inside.tokens ≡ c.self.inside.tokens = search rules in
    same_lists _ _ _ _ _ _ _ _
    (c.keep_first_polygons.ensures
    ∙ growth_undone c.args.number c.args.old.now.regions.polygons c.in_ok-polygons_of.field-0.items c.polygons.result.now c.self.inside.points c.self-2.inside.points
    (subst (IsHeldWith c.args.number c.args.old.now.regions.polygons) (sym (ap (λ r. r.points) c.self.view_is)) c.requires.points)
    (back ∙ c.in_ok-add.ensures.added) c.polygons.ensures)
    addresses references tokens
    ∙ c.self.view_is
