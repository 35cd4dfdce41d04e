-- The numbers stay as they are.
use Rattle.std.proofs.Common.{rules, ◌≡◌, ◌*◌, ◌<◌, sym, subst}
use Rattle.lost_routing.specs.Invariants.{IsNew}
use Rattle.lost_routing.proofs.ApplyLemmas.{routed_next, within_replace}
use Rattle.lost_routing.proofs.routing.Routing.replace.Goals as goal

pub invariant_of-self-2 : goal.invariant_of-self-2
invariant_of-self-2 c =
    let same : c.replace.new.self.numbers ≡ c.self.inside.store.numbers = search rules in
    routed_next c.self.inside.limits c.replace.new.self.mappings c.self.inside.traces c.self.inside.edits c.replace.new.self.numbers
    (subst (λ b. b.edits < b.limits.edits) (sym c.self.view_is) (within_replace c.args.self.now c.args.mapping c.in_ok-check_replace.ensures))
    c.self.invariant.counted.limit (subst (IsNew (c.self.inside.edits * 64)) (sym same) c.self.invariant.below)
