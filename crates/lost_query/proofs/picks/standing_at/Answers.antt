use Rattle.lost_query.specs.Finding.{all_found}
use Rattle.lost_query.proofs.PickLemmas.{keeps_more}
use Rattle.lost_query.proofs.picks.standing_at.Goals as goal

pub loop-position-preserved : goal.loop-position-preserved
loop-position-preserved g c =
    keeps_more (g.H.Holdings.book c.args.holdings.now).mappings c.args.positions.now c.loop-position.position-index _ c.mapping.result.now c.loop-position-test.true c.mapping.ensures
    (all_found c.loop-position.found) _ c.in_ok-clone.field-0 c.loop-position.invariant c.in_ok-add_found.ensures c.in_ok-clone.ensures
