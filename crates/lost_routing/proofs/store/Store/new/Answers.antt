-- Nothing is held, so nothing is asked of the tables.
use Rattle.std.proofs.Common.{[], sym, subst}
use Rattle.lost_routing.specs.Invariants.{IsClassed}
use Rattle.lost_routing.proofs.StoreLemmas.{nothing_classed}
use Rattle.lost_routing.proofs.store.Store.new.Goals as goal

pub invariant_of-result : goal.invariant_of-result
invariant_of-result c =
    subst (λ k. IsClassed k.numbers k.mappings c.new-2.result c.new-3.result c.none.result) (sym c.new.ensures)
    (subst (λ r. IsClassed [] [] c.new-2.result r c.none.result) (sym c.new-3.ensures) (nothing_classed c.new-2.result c.none.result))
