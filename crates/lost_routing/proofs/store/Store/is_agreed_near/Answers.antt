-- Each mapping that passes is among the candidates.
use Rattle.std.proofs.Common.{Contains, rules, sym, subst}
use Rattle.lost_query.specs.Reference.{is_referring_by}
use Rattle.lost_tables.specs.Picks.{Covers}
use Rattle.lost_routing.proofs.NamedLemmas.{covers_naming}
use Rattle.lost_routing.proofs.store.Store.is_agreed_near.Goals as goal

pub returns : goal.returns
returns c =
    let r = c.args.reference.now in
    c.has_any-agreed.ensures (is_referring_by r) (λ m b says. search rules)
    (subst (λ k. Covers (is_referring_by r) k.numbers k.mappings c.as_slice.result.now) c.self.view_is
    (covers_naming r.address.now r.moment.now r.service.now r.elements.now
    c.self.inside.rows.numbers c.self.inside.rows.mappings c.self.inside.tables c.self.inside.regions c.self.invariant.store
    c.args.required.now c.as_slice.result.now c.requires
    (λ n stands. subst (λ l. Contains l n) (sym c.as_slice.ensures.value) (c.in_ok-candidates.ensures.holders n stands))))
