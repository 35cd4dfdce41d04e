-- The corners so far, with those of the positions to come, are the corners of all the positions.
use Rattle.std.proofs.Common.{List, ◌++◌, length}
use Rattle.lost_spec.specs.Ring.{Point}
use Rattle.lost_geo.specs.Runs.{edges_of_a_run, AreCornersOf}
use Rattle.lost_geo.proofs.run.corners_of.Given as goal

abbrev pub invariant-loop-rest : goal.invariant-loop-rest
invariant-loop-rest l = (later : List Point) → AreCornersOf edges_of_a_run later l.rest → AreCornersOf edges_of_a_run (l.corners.items ++ later) l.positions

abbrev pub decreases-loop-rest : goal.decreases-loop-rest
decreases-loop-rest l = length l.rest
