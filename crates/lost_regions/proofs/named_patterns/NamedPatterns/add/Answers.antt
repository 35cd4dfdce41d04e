use Rattle.std.proofs.Common.{rules, ◌≡◌, sym, subst, ◌∙◌}
use Rattle.lost_regions.specs.UnderNumber.{IsHeldWith}
use Rattle.lost_regions.proofs.UnderNumberLemmas.{is_held, grown, growth_undone}
use Rattle.lost_regions.proofs.named_patterns.NamedPatterns.add.Goals as goal

pub add-requires : goal.add-requires
add-requires c =
    is_held c.args.number c.args.old.now.regions.patterns c.self.inside.references
    (subst (IsHeldWith c.args.number c.args.old.now.regions.patterns) (sym c.self.view_is) c.requires)

pub add-requires-2 : goal.add-requires-2
add-requires-2 c =
    is_held c.args.number c.args.old.now.regions.patterns c.self.inside.elements
    (subst (IsHeldWith c.args.number c.args.old.now.regions.patterns) (sym (c.self.invariant ∙ c.self.view_is)) c.requires)

pub keep_first-requires : goal.keep_first-requires
keep_first-requires c =
    grown c.args.number c.args.old.now.regions.patterns c.in_ok-patterns_of.field-0.items _ _ c.self.inside.references c.add.new.self
    (subst (IsHeldWith c.args.number c.args.old.now.regions.patterns) (sym c.self.view_is) c.requires)
    c.in_ok-add.ensures.added c.patterns.ensures
    (c.patterns-then-is_err.ensures ∙ sym c.in_ok-patterns_of.ensures)

pub returns-then-is_err-clause-refused : goal.returns-then-is_err-clause-refused
returns-then-is_err-clause-refused c =
    c.keep_first.ensures
    ∙ growth_undone c.args.number c.args.old.now.regions.patterns c.in_ok-patterns_of.field-0.items c.patterns.result.now c.self.inside.references c.add.new.self
    (subst (IsHeldWith c.args.number c.args.old.now.regions.patterns) (sym c.self.view_is) c.requires)
    c.in_ok-add.ensures.added c.patterns.ensures
    ∙ c.self.view_is

pub invariant_of-self-then-is_err : goal.invariant_of-self-then-is_err
invariant_of-self-then-is_err c =
    let elements : c.add-2.new.self ≡ c.self.inside.elements = search rules in
    elements ∙ c.self.invariant
    ∙ sym (c.keep_first.ensures
    ∙ growth_undone c.args.number c.args.old.now.regions.patterns c.in_ok-patterns_of.field-0.items c.patterns.result.now c.self.inside.references c.add.new.self
    (subst (IsHeldWith c.args.number c.args.old.now.regions.patterns) (sym c.self.view_is) c.requires)
    c.in_ok-add.ensures.added c.patterns.ensures)
