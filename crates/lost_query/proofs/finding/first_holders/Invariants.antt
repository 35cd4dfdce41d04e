use Rattle.std.proofs.Common.{◌≡◌, ◌≤◌, length}
use Rattle.lost_spec.specs.Service.{chain, cuts}
use Rattle.lost_spec.specs.Find.{at, first_with}
use Rattle.lost_location.specs.Place.{place_of}
use Rattle.lost_query.proofs.finding.first_holders.Given as goal

abbrev pub invariant-loop-depth : goal.invariant-loop-depth
invariant-loop-depth g l = record {
  within : l.depth ≤ length l.service;
  left :
      first_with (at (g.H.Holdings.book l.holdings) l.moment (place_of l.place)) (chain l.service)
      ≡ first_with (at (g.H.Holdings.book l.holdings) l.moment (place_of l.place)) (cuts l.depth l.service);
}

abbrev pub decreases-loop-depth : goal.decreases-loop-depth
decreases-loop-depth g l = l.depth
