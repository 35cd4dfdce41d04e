-- Each mapping that passes is among the candidates.
use Rattle.std.proofs.Common.{sym, subst}
use Rattle.lost_tables.specs.Picks.{Covers}
use Rattle.lost_routing.proofs.store.Store.selected_below.Goals as goal

pub returns : goal.returns
returns g c = λ test says tells.
    c.pick.ensures test says
    (subst (λ l. Covers test c.args.self.now.numbers c.args.self.now.mappings l) (sym c.as_slice.ensures.value)
    (c.in_ok-candidates.ensures test tells))
