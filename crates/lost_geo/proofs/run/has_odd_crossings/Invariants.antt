-- The edges of the runs so far and those to come are all the edges, and the corners to come are those of the positions to come.
use Rattle.std.proofs.Common.{◌≡◌, drop, length}
use Rattle.lost_spec.specs.Ring.{edges, crossings, is_odd}
use Rattle.lost_geo.specs.Laws.{is_just_one}
use Rattle.lost_geo.specs.Runs.{edges_of_a_run, AreCornersOf}
use Rattle.lost_geo.proofs.run.has_odd_crossings.Given as goal

abbrev pub invariant-loop-rest : goal.invariant-loop-rest
invariant-loop-rest l = record {
  crossed : is_just_one l.odd (is_odd (crossings (edges (drop l.begin l.positions)) l.place)) ≡ is_odd (crossings (edges l.positions) l.place);
  left : AreCornersOf edges_of_a_run l.rest (drop l.begin l.positions);
}

abbrev pub decreases-loop-rest : goal.decreases-loop-rest
decreases-loop-rest l = length l.rest
