-- Each mapping that passes is among the candidates.
use Rattle.std.proofs.Common.{rules, subst}
use Rattle.lost_spec.specs.Find.{serves}
use Rattle.lost_tables.specs.Picks.{Covers}
use Rattle.lost_routing.proofs.CoverLemmas.{covers_service}
use Rattle.lost_routing.proofs.store.Store.of_service.Goals as goal

pub returns : goal.returns
returns c =
    c.pick.ensures (λ m. serves m c.args.moment.now c.args.service.now) (λ m r says. search rules)
    (subst (λ k. Covers (λ m. serves m c.args.moment.now c.args.service.now) k.numbers k.mappings c.of_service-candidates.result.now) c.self.view_is
    (covers_service c.self.inside.rows.numbers c.self.inside.rows.mappings c.self.inside.tables c.self.inside.regions c.self.invariant.store
    c.args.moment.now c.args.service.now c.of_service-candidates.result.now
    (c.of_service-candidates.ensures c.args.service.now c.text.ensures.text)))
