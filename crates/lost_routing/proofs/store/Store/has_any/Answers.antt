-- What covers the numbers and the mappings covers those of the store.
use Rattle.std.proofs.Common.{◌≡◌, sym, ap, subst}
use Rattle.std.specs.List.{list_any}
use Rattle.lost_tables.specs.Picks.{Covers}
use Rattle.lost_routing.proofs.store.Store.has_any.Goals as goal

pub returns : goal.returns
returns g c = λ test says covers.
    subst (λ l. c.any.result ≡ list_any test l) (ap (λ k. k.mappings) c.self.view_is)
    (c.any.ensures test says (subst (λ k. Covers test k.numbers k.mappings c.args.candidates.now) (sym c.self.view_is) covers))
