use Rattle.std.proofs.Common.{◌≡◌, None, Some, subst, sym, arith}
use Rattle.lost_tape.specs.Tapes.{HoldsItems}
use Rattle.lost_tape.proofs.PartLemmas.{next_held, NextTree}
use Rattle.lost_tape.proofs.tree.Trees.next.Goals as goal

pub returns-in_err-element-clause-value : goal.returns-in_err-element-clause-value
returns-in_err-element-clause-value c items h =
    let gone : c.from_residual.result ≡ None = grind arith in
    let held = subst (λ ts. HoldsItems ts items) (sym c.self.view_is) h in
    subst (λ r. NextTree items r c.next.new.self) (sym gone) (next_held _ c.next.new.self None items held c.in_err-element.ensures.value).0

pub invariant_of-result : goal.invariant_of-result
invariant_of-result c = (next_held _ c.next.new.self (Some c.in_ok-element.element) c.self.invariant.0 c.self.invariant.1 c.in_ok-element.ensures.value).1

pub invariant_of-self-2 : goal.invariant_of-self-2
invariant_of-self-2 c = let next = (next_held _ c.next.new.self (Some c.in_ok-element.element) c.self.invariant.0 c.self.invariant.1 c.in_ok-element.ensures.value).0 in (next.0, next.2)

pub returns-clause-value : goal.returns-clause-value
returns-clause-value c items h =
    let held = subst (λ ts. HoldsItems ts items) (sym c.self.view_is) h in
    (next_held _ c.next.new.self (Some c.in_ok-element.element) items held c.in_ok-element.ensures.value).0
