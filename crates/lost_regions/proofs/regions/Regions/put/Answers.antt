use Rattle.std.proofs.Common.{rules, ◌≡◌, sym, ap, subst, ◌∙◌}
use Rattle.lost_index.specs.Entries.{IsAbove}
use Rattle.lost_regions.proofs.UnderNumberLemmas.{is_put, put_undone}
use Rattle.lost_regions.proofs.RegionLemmas.{same_lists}
use Rattle.lost_regions.proofs.regions.Regions.put.Goals as goal

pub take-requires : goal.take-requires
take-requires c =
    let back : c.self-2.inside.points ≡ c.put.new.self = search rules in
    is_put c.args.number c.in_ok-polygons_of.field-0.items c.self.inside.points c.self-2.inside.points
    (subst (IsAbove c.args.number) (sym (ap (λ r. r.points) c.self.view_is)) c.requires.points)
    (back ∙ c.in_ok-put.ensures.put)

pub returns-then-is_err-clause-refused : goal.returns-then-is_err-clause-refused
returns-then-is_err-clause-refused c =
    let back : c.self-2.inside.points ≡ c.put.new.self = search rules in
    let addresses : c.self-2.inside.addresses ≡ c.self.inside.addresses = search rules in
    let references : c.self-2.inside.references ≡ c.self.inside.references = search rules in
    let tokens : c.self-2.inside.tokens ≡ c.self.inside.tokens = search rules in
    same_lists _ _ _ _ _ _ _ _
    (c.take.ensures
    ∙ put_undone c.args.number c.in_ok-polygons_of.field-0.items c.self.inside.points c.self-2.inside.points
    (subst (IsAbove c.args.number) (sym (ap (λ r. r.points) c.self.view_is)) c.requires.points)
    (back ∙ c.in_ok-put.ensures.put))
    addresses references tokens
    ∙ c.self.view_is
