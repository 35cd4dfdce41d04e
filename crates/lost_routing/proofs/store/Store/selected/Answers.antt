-- Each mapping that passes is among the candidates.
use Rattle.std.proofs.Common.{Contains, sym, subst}
use Rattle.lost_location.specs.Place.{place_of}
use Rattle.lost_tables.specs.Picks.{Covers}
use Rattle.lost_routing.proofs.CoverLemmas.{covers_at}
use Rattle.lost_routing.proofs.store.Store.selected.Goals as goal

pub returns : goal.returns
returns g c = λ test says tells.
    c.pick.ensures test says
    (subst (λ k. Covers test k.numbers k.mappings c.as_slice.result.now) c.self.view_is
    (covers_at c.self.inside.rows.numbers c.self.inside.rows.mappings c.self.inside.tables c.self.inside.regions c.self.invariant.store
    test (place_of c.args.place.now) c.as_slice.result.now tells
    (λ n stands. subst (λ l. Contains l n) (sym c.as_slice.ensures.value) (c.in_ok-candidates.ensures.holders n stands))))
