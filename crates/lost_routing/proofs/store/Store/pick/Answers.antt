-- What covers the numbers and the mappings covers those of the store.
use Rattle.std.proofs.Common.{◌≡◌, IfOk, sym, ap, subst}
use Rattle.lost_spec.specs.Positions.{positions}
use Rattle.lost_tables.specs.Picks.{Covers}
use Rattle.lost_routing.proofs.store.Store.pick.Goals as goal

pub returns : goal.returns
returns g c = λ test says covers.
    subst (λ l. IfOk c.select.result (λ found. found.items ≡ positions test l)) (ap (λ k. k.mappings) c.self.view_is)
    (c.select.ensures test says (subst (λ k. Covers test k.numbers k.mappings c.args.candidates.now) (sym c.self.view_is) covers))
