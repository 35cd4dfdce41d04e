use Rattle.std.proofs.Common.{rules, ◌≡◌, sym, ap, subst, ◌∙◌}
use Rattle.lost_index.specs.Entries.{IsAbove}
use Rattle.lost_regions.proofs.UnderNumberLemmas.{is_put, put_undone}
use Rattle.lost_regions.proofs.RegionLemmas.{same_lists}
use Rattle.lost_regions.proofs.regions.Regions.put_named.Goals as goal

pub take-requires : goal.take-requires
take-requires c =
    let back : c.self-2.inside.tokens ≡ c.put.new.self = search rules in
    is_put c.args.number c.in_ok-token_sets_of.field-0.items c.self.inside.tokens c.self-2.inside.tokens
    (subst (IsAbove c.args.number) (sym (ap (λ r. r.tokens) c.self.view_is)) c.requires.tokens)
    (back ∙ c.in_ok-put.ensures.put)

pub returns-then-is_err-clause-refused : goal.returns-then-is_err-clause-refused
returns-then-is_err-clause-refused c =
    let points : c.self-2.inside.points ≡ c.self.inside.points = search rules in
    let addresses : c.self-2.inside.addresses ≡ c.self.inside.addresses = search rules in
    let references : c.self-2.inside.references ≡ c.self.inside.references = search rules in
    let back : c.self-2.inside.tokens ≡ c.put.new.self = search rules in
    same_lists _ _ _ _ _ _ _ _
    points addresses references
    (c.take.ensures
    ∙ put_undone c.args.number c.in_ok-token_sets_of.field-0.items c.self.inside.tokens c.self-2.inside.tokens
    (subst (IsAbove c.args.number) (sym (ap (λ r. r.tokens) c.self.view_is)) c.requires.tokens)
    (back ∙ c.in_ok-put.ensures.put))
    ∙ c.self.view_is
