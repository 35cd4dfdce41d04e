use Rattle.std.proofs.Common.{rules, ◌≡◌, refl, sym, ap, subst, ◌∙◌}
use Rattle.lost_regions.specs.UnderNumber.{IsHeldWith}
use Rattle.lost_regions.proofs.UnderNumberLemmas.{is_held, grown, growth_undone}
use Rattle.lost_regions.proofs.RegionLemmas.{same_lists}
use Rattle.lost_regions.proofs.regions.Regions.grow_patterns.Goals as goal

pub add-requires : goal.add-requires
add-requires c =
    is_held c.args.number c.args.old.now.regions.patterns c.self.inside.addresses
    (subst (IsHeldWith c.args.number c.args.old.now.regions.patterns) (sym (ap (λ r. r.addresses) c.self.view_is)) c.requires.addresses)

pub add-requires-2 : goal.add-requires-2
add-requires-2 c =
    subst (IsHeldWith c.args.number c.args.old.now.regions.patterns) (sym (ap (λ r. r.references) c.self.view_is)) c.requires.references

pub keep_first-requires : goal.keep_first-requires
keep_first-requires c =
    grown c.args.number c.args.old.now.regions.patterns c.in_ok-patterns_of.field-0.items _ _ c.self.inside.addresses c.add.new.self
    (subst (IsHeldWith c.args.number c.args.old.now.regions.patterns) (sym (ap (λ r. r.addresses) c.self.view_is)) c.requires.addresses)
    c.in_ok-add.ensures.added c.patterns.ensures
    (c.patterns-then-is_err.ensures ∙ sym c.in_ok-patterns_of.ensures)

pub returns-then-is_err-clause-refused : goal.returns-then-is_err-clause-refused
returns-then-is_err-clause-refused c =
    let references : c.add-2.new.self ≡ c.self.inside.references = search rules in
    same_lists _ _ _ _ _ _ _ _ refl
    (c.keep_first.ensures
    ∙ growth_undone c.args.number c.args.old.now.regions.patterns c.in_ok-patterns_of.field-0.items c.patterns.result.now c.self.inside.addresses c.add.new.self
    (subst (IsHeldWith c.args.number c.args.old.now.regions.patterns) (sym (ap (λ r. r.addresses) c.self.view_is)) c.requires.addresses)
    c.in_ok-add.ensures.added c.patterns.ensures)
    references refl
    ∙ c.self.view_is
