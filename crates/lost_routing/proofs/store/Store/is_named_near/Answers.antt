-- Each mapping that passes is among the candidates.
use Rattle.std.proofs.Common.{rules, sym, subst}
use Rattle.lost_query.specs.Reference.{is_naming_by}
use Rattle.lost_tables.specs.Picks.{Covers}
use Rattle.lost_routing.specs.Naming.{AreAmong}
use Rattle.lost_routing.proofs.NamedLemmas.{covers_either}
use Rattle.lost_routing.proofs.store.Store.is_named_near.Goals as goal

pub returns : goal.returns
returns c =
    let r = c.args.reference.now in
    c.has_any-found.ensures (is_naming_by r c.args.named) (λ m b says. search rules)
    (subst (λ k. Covers (is_naming_by r c.args.named) k.numbers k.mappings c.as_slice.result.now) c.self.view_is
    (covers_either r.address.now r.moment.now r.service.now r.elements.now
    c.self.inside.rows.numbers c.self.inside.rows.mappings c.self.inside.tables c.self.inside.regions c.self.invariant.store
    c.args.required.now c.args.named c.as_slice.result.now c.requires
    (subst (λ l. AreAmong c.args.required.now c.args.named c.self.inside.regions l) (sym c.as_slice.ensures.value) c.in_ok-candidates.ensures)))
