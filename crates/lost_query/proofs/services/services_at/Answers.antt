use Rattle.std.proofs.Common.{◌≡◌, ◌∷◌, rules}
use Rattle.std.specs.Option.{option_copied}
use Rattle.std.specs.Iterator.Adapters.{rev_source}
use Rattle.std.specs.Slice.Iter.{iter_rest}
use Rattle.lost_spec.specs.Positions.{positions}
use Rattle.lost_spec.specs.Services.{is_holding, services}
use Rattle.lost_location.specs.Place.{place_of}
use Rattle.lost_query.proofs.HasChildren.{HasChildren-at, next_done, services-HasChildren}
use Rattle.lost_query.proofs.PositionLemmas.{position-below}
use Rattle.lost_query.proofs.services.services_at.Goals as goal

pub mapping-requires : goal.mapping-requires
mapping-requires g c =
    let invariant = c.loop-position.invariant in
    position-below (is_holding c.args.moment.now (place_of c.args.place.now)) (g.H.Holdings.book c.args.holdings.now).mappings (iter_rest (rev_source c.loop-position.position-iterator)) (iter_rest (rev_source c.next.new.self)) invariant.0 c.in-Some.position.now invariant.1 c.in-Some.ensures.steps

pub loop-position-preserved : goal.loop-position-preserved
loop-position-preserved g c =
    let mappings = (g.H.Holdings.book c.args.holdings.now).mappings in
    let invariant = c.loop-position.invariant in
    let position = c.in-Some.position.now in (
      position ∷ invariant.0,
      next_done (iter_rest (rev_source c.loop-position.position-iterator)) (iter_rest (rev_source c.next.new.self)) invariant.0
          (positions (is_holding c.args.moment.now (place_of c.args.place.now)) mappings) position invariant.1 c.in-Some.ensures.steps,
      HasChildren-at (option_copied c.args.above) mappings invariant.0 position c.mapping.result.now c.mapping.ensures
          c.service.result.now c.loop-position.children c.add.new.self invariant.2 c.service.ensures c.in_ok-add.ensures.child,
    )

pub returns : goal.returns
returns g c =
    let book = g.H.Holdings.book c.args.holdings.now in
    let place = place_of c.args.place.now in
    let above = option_copied c.args.above in
    let invariant = c.loop-position.invariant in
    let all : c.loop-position.children.found ≡ services book c.args.moment.now place above = services-HasChildren book c.args.moment.now place above (iter_rest (rev_source c.loop-position.position-iterator)) invariant.0 c.loop-position.children c.in-None.ensures.steps.0 invariant.1 invariant.2 in
    search rules
