use Rattle.std.proofs.Common.{rules, ◌≡◌, refl, sym, ap, subst, ◌∙◌}
use Rattle.lost_index.specs.Entries.{IsAbove}
use Rattle.lost_regions.proofs.UnderNumberLemmas.{is_put, put_undone}
use Rattle.lost_regions.proofs.RegionLemmas.{same_lists}
use Rattle.lost_regions.proofs.regions.Regions.put_patterns.Goals as goal

pub take-requires : goal.take-requires
take-requires c =
    is_put c.args.number c.in_ok-patterns_of.field-0.items c.self.inside.addresses c.put.new.self
    (subst (IsAbove c.args.number) (sym (ap (λ r. r.addresses) c.self.view_is)) c.requires.addresses)
    c.in_ok-put.ensures.put

pub returns-then-is_err-clause-refused : goal.returns-then-is_err-clause-refused
returns-then-is_err-clause-refused c =
    let references : c.put-2.new.self ≡ c.self.inside.references = search rules in
    same_lists _ _ _ _ _ _ _ _ refl
    (c.take.ensures
    ∙ put_undone c.args.number c.in_ok-patterns_of.field-0.items c.self.inside.addresses c.put.new.self
    (subst (IsAbove c.args.number) (sym (ap (λ r. r.addresses) c.self.view_is)) c.requires.addresses)
    c.in_ok-put.ensures.put)
    references refl
    ∙ c.self.view_is
