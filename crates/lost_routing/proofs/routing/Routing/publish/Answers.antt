-- The new number is of the edition before, which is above all others.
use Rattle.std.proofs.Common.{rules, ◌≡◌, ◌<◌, [], ◌∷◌, ◌++◌, sym, subst}
use Rattle.lost_routing.specs.Invariants.{IsOfEdit}
use Rattle.lost_routing.proofs.ApplyLemmas.{new_of_edit, routed_put, within_publish}
use Rattle.lost_routing.proofs.routing.Routing.publish.Goals as goal

pub put-requires : goal.put-requires
put-requires c =
    new_of_edit c.self.inside.edits c.next_number-number.result c.self.inside.store.numbers
    (subst (λ b. IsOfEdit c.next_number-number.result b.edits) (sym c.self.view_is) c.next_number-number.ensures) c.self.invariant.below

pub invariant_of-self-2 : goal.invariant_of-self-2
invariant_of-self-2 c =
    let put : c.put.new.self.numbers ≡ c.self.inside.store.numbers ++ c.next_number-number.result ∷ [] = search rules in
    routed_put c.self.inside.limits c.put.new.self.mappings c.forget.new.self c.self.inside.edits c.next_number-number.result c.self.inside.store.numbers
    c.put.new.self.numbers
    (subst (λ b. b.edits < b.limits.edits) (sym c.self.view_is) (within_publish c.args.self.now c.args.mapping c.in_ok-check_publish.ensures))
    c.self.invariant.counted.limit
    (subst (λ b. IsOfEdit c.next_number-number.result b.edits) (sym c.self.view_is) c.next_number-number.ensures) c.self.invariant.below put
