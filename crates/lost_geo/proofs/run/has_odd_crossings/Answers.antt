-- Each step takes one run from those to come, and at the end no edge is left.
use Rattle.std.proofs.Common.{◌≤◌, length, drop, arith}
use Rattle.lost_geo.specs.Runs.{edges_of_a_run}
use Rattle.lost_geo.proofs.Cuts.{odd_along}
use Rattle.lost_geo.proofs.Runs.{behind_a_run, walk_more, walk_all}
use Rattle.lost_geo.proofs.run.has_odd_crossings.Goals as goal

pub loop-rest-preserved : goal.loop-rest-preserved
loop-rest-preserved c = record {
  crossed =
      rw c.run_len-begin.ensures.value
      (walk_more edges_of_a_run c.loop-rest.odd c.run_has_odd_crossings-odd.result (odd_along c.args.positions.now c.args.place.now) c.args.positions.now c.loop-rest.begin
      c.args.place.now c.run_has_odd_crossings-odd.ensures c.loop-rest.invariant.crossed);
  left =
      rw c.run_len-begin.ensures.value
      rw c.behind_corners-rest.ensures.value
      (behind_a_run edges_of_a_run c.loop-rest.rest.now c.args.positions.now c.loop-rest.begin c.loop-rest-test.true c.loop-rest.invariant.left);
}

pub returns : goal.returns
returns c =
    let past : length c.loop-rest.rest.now ≤ 1 = omega arith in
    walk_all edges_of_a_run c.loop-rest.odd (odd_along c.args.positions.now c.args.place.now) c.loop-rest.rest.now (drop c.loop-rest.begin c.args.positions.now) c.args.place.now
    past c.loop-rest.invariant.left c.loop-rest.invariant.crossed
