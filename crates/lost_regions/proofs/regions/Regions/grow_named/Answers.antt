use Rattle.std.proofs.Common.{rules, ◌≡◌, sym, ap, subst, ◌∙◌}
use Rattle.lost_regions.specs.UnderNumber.{IsHeldWith}
use Rattle.lost_regions.proofs.UnderNumberLemmas.{is_held, grown, growth_undone}
use Rattle.lost_regions.proofs.RegionLemmas.{same_lists}
use Rattle.lost_regions.proofs.regions.Regions.grow_named.Goals as goal

pub add-requires : goal.add-requires
add-requires c =
    is_held c.args.number c.args.old.now.regions.token_sets c.self.inside.tokens
    (subst (IsHeldWith c.args.number c.args.old.now.regions.token_sets) (sym (ap (λ r. r.tokens) c.self.view_is)) c.requires.tokens)

pub keep_first-requires : goal.keep_first-requires
keep_first-requires c =
    let back : c.self-2.inside.tokens ≡ c.add.new.self = search rules in
    grown c.args.number c.args.old.now.regions.token_sets c.in_ok-token_sets_of.field-0.items _ _ c.self.inside.tokens c.self-2.inside.tokens
    (subst (IsHeldWith c.args.number c.args.old.now.regions.token_sets) (sym (ap (λ r. r.tokens) c.self.view_is)) c.requires.tokens)
    (back ∙ c.in_ok-add.ensures.added) c.token_sets.ensures
    (c.token_sets-then-is_err.ensures ∙ sym c.in_ok-token_sets_of.ensures)

pub returns-then-is_err-clause-refused : goal.returns-then-is_err-clause-refused
returns-then-is_err-clause-refused c =
    let back : c.self-2.inside.tokens ≡ c.add.new.self = search rules in
    let points : c.self-2.inside.points ≡ c.self.inside.points = search rules in
    let addresses : c.self-2.inside.addresses ≡ c.self.inside.addresses = search rules in
    let references : c.self-2.inside.references ≡ c.self.inside.references = search rules in
    same_lists _ _ _ _ _ _ _ _ points addresses references
    (c.keep_first.ensures
    ∙ growth_undone c.args.number c.args.old.now.regions.token_sets c.in_ok-token_sets_of.field-0.items c.token_sets.result.now c.self.inside.tokens c.self-2.inside.tokens
    (subst (IsHeldWith c.args.number c.args.old.now.regions.token_sets) (sym (ap (λ r. r.tokens) c.self.view_is)) c.requires.tokens)
    (back ∙ c.in_ok-add.ensures.added) c.token_sets.ensures)
    ∙ c.self.view_is
