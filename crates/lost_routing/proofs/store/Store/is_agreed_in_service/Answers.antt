-- Each mapping that passes is among the candidates.
use Rattle.std.proofs.Common.{rules, subst}
use Rattle.lost_query.specs.Reference.{is_referring_by}
use Rattle.lost_tables.specs.Picks.{Covers}
use Rattle.lost_routing.proofs.CoverLemmas.{covers_referring}
use Rattle.lost_routing.proofs.store.Store.is_agreed_in_service.Goals as goal

pub returns : goal.returns
returns c =
    let r = c.args.reference.now in
    c.has_any.ensures (is_referring_by r) (λ m b says. search rules)
    (subst (λ k. Covers (is_referring_by r) k.numbers k.mappings c.of_service-candidates.result.now) c.self.view_is
    (covers_referring c.self.inside.rows.numbers c.self.inside.rows.mappings c.self.inside.tables c.self.inside.regions c.self.invariant.store
    r.moment.now r.service.now r.address.now r.elements.now c.of_service-candidates.result.now
    (c.of_service-candidates.ensures r.service.now c.text.ensures.text)))
