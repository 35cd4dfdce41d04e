-- What holds a place has those of each chain which do.
use Rattle.std.proofs.Common.{◌≡◌, ◌<◌, All, length}
use Rattle.std.proofs.lemmas.Result.{IfOk-weaker}
use Rattle.lost_spec.specs.Positions.{positions}
use Rattle.lost_spec.specs.Services.{is_holding, holding}
use Rattle.lost_query.specs.Finding.{at_positions, of_chain}
use Rattle.lost_location.specs.Place.{place_of}
use Rattle.lost_query.proofs.ChainLemmas.{of_chain-holding}
use Rattle.lost_query.proofs.PositionLemmas.{positions-within}
use Rattle.lost_query.proofs.holdings.Holdings.of_chain.Goals as goal

pub returns-clause-within : goal.returns-clause-within
returns-clause-within g c =
    let b = g.Self.Holdings.book c.args.self.now in
    let test = is_holding c.args.moment.now (place_of c.args.place.now) in
    IfOk-weaker c.holding.result (λ found. found.items ≡ positions test b.mappings) (λ found. All (λ position. position < length b.mappings) found.items)
    (λ found are. positions-within test b.mappings found.items are) c.holding.ensures

pub returns-clause-of_chain : goal.returns-clause-of_chain
returns-clause-of_chain g c =
    let b = g.Self.Holdings.book c.args.self.now in
    let t = c.args.moment.now in
    let l = place_of c.args.place.now in
    let s = c.args.service.now in
    IfOk-weaker c.holding.result (λ found. found.items ≡ positions (is_holding t l) b.mappings)
    (λ found. of_chain s (at_positions b.mappings found.items) ≡ of_chain s (holding b t l))
    (λ found are. of_chain-holding b t l s found.items are) c.holding.ensures
