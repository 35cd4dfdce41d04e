-- Each mapping that passes is among the candidates.
use Rattle.std.proofs.Common.{Contains, rules, sym, subst}
use Rattle.lost_query.specs.Reference.{is_naming_by}
use Rattle.lost_tables.specs.Picks.{Covers}
use Rattle.lost_routing.proofs.NamedLemmas.{covers_named}
use Rattle.lost_routing.proofs.store.Store.is_named_at_all.Goals as goal

pub returns : goal.returns
returns c =
    c.has_any-found.ensures (is_naming_by c.args.reference.now c.args.named) (λ m b says. search rules)
    (subst (λ k. Covers (is_naming_by c.args.reference.now c.args.named) k.numbers k.mappings c.as_slice.result.now) c.self.view_is
    (covers_named c.args.reference.now.address.now c.args.reference.now.moment.now c.args.reference.now.service.now c.args.reference.now.elements.now
    c.self.inside.rows.numbers c.self.inside.rows.mappings c.self.inside.tables c.self.inside.regions c.self.invariant.store c.args.named c.as_slice.result.now
    (λ n stands. subst (λ l. Contains l n) (sym c.as_slice.ensures.value) (c.in_ok-candidates.ensures.holders n stands))))
