-- What was above all numbers is above those that are left.
use Rattle.std.proofs.Common.{◌*◌, ◌<◌, sym, subst}
use Rattle.lost_routing.proofs.ApplyLemmas.{routed_next, within_withdraw}
use Rattle.lost_routing.proofs.routing.Routing.withdraw.Goals as goal

pub invariant_of-self-2 : goal.invariant_of-self-2
invariant_of-self-2 c =
    routed_next c.self.inside.limits c.withdraw.new.self.mappings c.remember.new.self c.self.inside.edits c.withdraw.new.self.numbers
    (subst (λ b. b.edits < b.limits.edits) (sym c.self.view_is)
    (within_withdraw c.args.self.now c.args.identity.now c.args.stamp.now c.in_ok-check_withdraw.ensures))
    c.self.invariant.counted.limit (c.withdraw.ensures.below (c.self.inside.edits * 64) c.self.invariant.below)
