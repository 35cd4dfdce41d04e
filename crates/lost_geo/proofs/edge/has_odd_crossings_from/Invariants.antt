-- The edges so far and those to come are all the edges.
use Rattle.std.proofs.Common.{◌≡◌, ◌∷◌, drop}
use Rattle.lost_spec.specs.Ring.{edges, crossings, is_odd}
use Rattle.lost_geo.specs.Laws.{is_just_one}
use Rattle.lost_geo.proofs.edge.has_odd_crossings_from.Given as goal

abbrev pub invariant-loop-to : goal.invariant-loop-to
invariant-loop-to l =
    is_just_one l.odd (is_odd (crossings (edges (l.from ∷ drop l.to-index l.rest)) l.place))
    ≡ is_odd (crossings (edges (l.fn.first ∷ l.rest)) l.place)
