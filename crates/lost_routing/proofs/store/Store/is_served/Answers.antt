-- Each mapping that passes is among the candidates.
use Rattle.std.proofs.Common.{◌≡◌, take, rules, ap, subst}
use Rattle.std.specs.List.{list_any}
use Rattle.lost_spec.specs.Find.{serves}
use Rattle.lost_routing.proofs.CoverLemmas.{covers_service}
use Rattle.lost_routing.proofs.store.Store.is_served.Goals as goal

pub returns : goal.returns
returns c =
    subst (λ l. c.any.result ≡ list_any (λ m. serves m c.args.moment.now (take c.args.labels c.args.service.now)) l) (ap (λ k. k.mappings) c.self.view_is)
    (c.any.ensures (λ m. serves m c.args.moment.now (take c.args.labels c.args.service.now)) (λ m r says. search rules)
    (covers_service c.self.inside.rows.numbers c.self.inside.rows.mappings c.self.inside.tables c.self.inside.regions c.self.invariant.store
    c.args.moment.now (take c.args.labels c.args.service.now) c.of_service-candidates.result.now
    (c.of_service-candidates.ensures (take c.args.labels c.args.service.now) c.front.ensures.text)))
