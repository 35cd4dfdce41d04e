-- Where no edge is left, no corner is to come.
use Rattle.std.proofs.Common.{◌≤◌, [], List, subst, length, append-nil, arith}
use Rattle.lost_spec.specs.Ring.{Point}
use Rattle.lost_geo.specs.Runs.{edges_of_a_run, AreCornersOf}
use Rattle.lost_geo.proofs.run.corners_of.Goals as goal

pub returns : goal.returns
returns c =
    let none : length c.loop-rest.rest.now ≤ 1 = omega arith in
    subst (λ (corners : List Point). AreCornersOf edges_of_a_run corners c.args.positions.now) (append-nil c.loop-rest.corners.items) (c.loop-rest.invariant [] none)
