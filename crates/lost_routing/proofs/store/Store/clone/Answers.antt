-- The numbers rise, so the next one is above those that the copy has.
use Rattle.std.proofs.Common.{◌≡◌, ◌<◌, rules, take, length, sym, subst, arith}
use Rattle.lost_routing.specs.Invariants.{IsNew}
use Rattle.lost_routing.proofs.SplitLemmas.{new_at}
use Rattle.lost_routing.proofs.store.Store.clone.Goals as goal

pub put-requires : goal.put-requires
put-requires c =
    let numbers : c.loop-position.copy.numbers ≡ take c.loop-position.position c.self.inside.rows.numbers = search rules in
    let within : c.loop-position.position < length c.self.inside.rows.numbers = search (arith, rules) in
    subst (IsNew c.number_at.result) (sym numbers)
    (new_at c.self.inside.rows.numbers c.loop-position.position c.number_at.result within c.number_at.ensures c.self.invariant.store.rising)
