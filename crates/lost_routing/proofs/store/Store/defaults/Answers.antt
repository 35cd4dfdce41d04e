-- Each mapping that passes is among the candidates.
use Rattle.std.proofs.Common.{rules, subst}
use Rattle.lost_spec.specs.Find.{is_standby}
use Rattle.lost_tables.specs.Picks.{Covers}
use Rattle.lost_routing.proofs.CoverLemmas.{covers_default}
use Rattle.lost_routing.proofs.store.Store.defaults.Goals as goal

pub returns : goal.returns
returns c =
    c.pick.ensures (is_standby c.args.moment.now c.args.service.now) (λ m r says. search rules)
    (subst (λ k. Covers (is_standby c.args.moment.now c.args.service.now) k.numbers k.mappings c.of_default-candidates.result.now) c.self.view_is
    (covers_default c.self.inside.rows.numbers c.self.inside.rows.mappings c.self.inside.tables c.self.inside.regions c.self.invariant.store
    c.args.moment.now c.args.service.now c.of_default-candidates.result.now
    (c.of_default-candidates.ensures c.args.service.now c.text.ensures.text)))
