-- Each step takes one edge from those to come, and at the end none is left.
use Rattle.lost_geo.proofs.Parity.{just_one_of_false}
use Rattle.lost_geo.proofs.Walk.{odd_from, walk_more, walk_all}
use Rattle.lost_geo.proofs.edge.has_odd_crossings_from.Goals as goal

pub loop-to-init : goal.loop-to-init
loop-to-init c = just_one_of_false (odd_from c.args.first.now c.args.rest.now c.args.place.now)

pub loop-to-preserved : goal.loop-to-preserved
loop-to-preserved c =
    walk_more c.loop-to.odd c.crosses-odd.result _ c.loop-to.from.now c.to-item.result c.args.rest.now c.loop-to.to-index
    c.args.place.now c.loop-to-test.true c.to-item.is c.crosses-odd.ensures c.loop-to.invariant

pub returns : goal.returns
returns c =
    walk_all c.loop-to.odd _ c.loop-to.from.now c.args.rest.now c.loop-to.to-index c.args.place.now
    c.loop-to-test.false c.loop-to.invariant
