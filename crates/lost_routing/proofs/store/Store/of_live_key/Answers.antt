-- Each mapping that passes is among the candidates.
use Rattle.std.proofs.Common.{◌≡◌, position, rules, ap, subst}
use Rattle.lost_spec.specs.Services.{has_live_key}
use Rattle.lost_routing.proofs.CoverLemmas.{covers_live_key}
use Rattle.lost_routing.proofs.store.Store.of_live_key.Goals as goal

pub returns : goal.returns
returns c =
    subst (λ l. c.first.result ≡ position (has_live_key c.args.moment.now c.args.key.now) l) (ap (λ k. k.mappings) c.self.view_is)
    (c.first.ensures (has_live_key c.args.moment.now c.args.key.now) (λ m r says. search rules)
    (covers_live_key c.self.inside.rows.numbers c.self.inside.rows.mappings c.self.inside.tables c.self.inside.regions c.self.invariant.store
    c.args.moment.now c.args.key.now c.of_key-candidates.result.now
    (c.of_key-candidates.ensures)))
