-- What is found at a place is what is asked of it.
use Rattle.std.proofs.Common.{◌≡◌, ◌<◌, All, length, ap}
use Rattle.std.proofs.lemmas.Result.{IfOk-weaker}
use Rattle.lost_spec.specs.Positions.{positions}
use Rattle.lost_spec.specs.Services.{holding}
use Rattle.lost_location.specs.Place.{place_of}
use Rattle.lost_query.specs.Finding.{at_positions, of_chain}
use Rattle.lost_routing.specs.Chain.{is_chain_holder}
use Rattle.lost_routing.proofs.ChainLemmas.{book_chain_within, book_chain_found}
use Rattle.lost_routing.proofs.holdings.RoutingHoldings.of_chain.Goals as goal

pub returns-clause-within : goal.returns-clause-within
returns-clause-within c =
    let l = place_of c.args.place.now in
    IfOk-weaker c.chain_at.result
    (λ found. found.items ≡ positions (is_chain_holder c.args.moment.now l c.args.service.now) c.self.inside.store.mappings)
    (λ found. All (λ position. position < length c.args.self.now.mappings) found.items)
    (λ found are. book_chain_within c.args.self.now c.self.inside.store.mappings c.args.moment.now l c.args.service.now
    (ap (λ b. b.mappings) c.self.view_is) found.items are) c.chain_at.ensures

pub returns-clause-of_chain : goal.returns-clause-of_chain
returns-clause-of_chain c =
    let l = place_of c.args.place.now in
    IfOk-weaker c.chain_at.result
    (λ found. found.items ≡ positions (is_chain_holder c.args.moment.now l c.args.service.now) c.self.inside.store.mappings)
    (λ found. of_chain c.args.service.now (at_positions c.args.self.now.mappings found.items)
    ≡ of_chain c.args.service.now (holding c.args.self.now c.args.moment.now l))
    (λ found are. book_chain_found c.args.self.now c.self.inside.store.mappings c.args.moment.now l c.args.service.now
    (ap (λ b. b.mappings) c.self.view_is) found.items are) c.chain_at.ensures
