use Rattle.std.proofs.Common.{rules, ◌≡◌, sym, subst, ◌∙◌}
use Rattle.lost_index.specs.Entries.{IsAbove}
use Rattle.lost_regions.proofs.UnderNumberLemmas.{is_put, put_undone}
use Rattle.lost_regions.proofs.named_patterns.NamedPatterns.put.Goals as goal

pub put-requires-2 : goal.put-requires-2
put-requires-2 c = subst (IsAbove c.args.number) (sym (c.self.invariant ∙ c.self.view_is)) c.requires

pub take-requires : goal.take-requires
take-requires c =
    is_put c.args.number c.in_ok-patterns_of.field-0.items c.self.inside.references c.put.new.self
    (subst (IsAbove c.args.number) (sym c.self.view_is) c.requires) c.in_ok-put.ensures.put

pub returns-then-is_err-clause-refused : goal.returns-then-is_err-clause-refused
returns-then-is_err-clause-refused c =
    c.take.ensures
    ∙ put_undone c.args.number c.in_ok-patterns_of.field-0.items c.self.inside.references c.put.new.self
    (subst (IsAbove c.args.number) (sym c.self.view_is) c.requires) c.in_ok-put.ensures.put
    ∙ c.self.view_is

pub invariant_of-self-then-is_err : goal.invariant_of-self-then-is_err
invariant_of-self-then-is_err c =
    let elements : c.put-2.new.self ≡ c.self.inside.elements = search rules in
    elements ∙ c.self.invariant
    ∙ sym (c.take.ensures
    ∙ put_undone c.args.number c.in_ok-patterns_of.field-0.items c.self.inside.references c.put.new.self
    (subst (IsAbove c.args.number) (sym c.self.view_is) c.requires) c.in_ok-put.ensures.put)
