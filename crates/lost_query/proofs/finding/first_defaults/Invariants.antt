use Rattle.std.proofs.Common.{◌≡◌, ◌≤◌, length}
use Rattle.lost_spec.specs.Service.{chain, cuts}
use Rattle.lost_spec.specs.Find.{defaults, first_with}
use Rattle.lost_query.proofs.finding.first_defaults.Given as goal

abbrev pub invariant-loop-depth : goal.invariant-loop-depth
invariant-loop-depth g l = record {
  within : l.depth ≤ length l.service;
  left : first_with (defaults (g.H.Holdings.book l.holdings) l.moment) (chain l.service) ≡ first_with (defaults (g.H.Holdings.book l.holdings) l.moment) (cuts l.depth l.service);
}

abbrev pub decreases-loop-depth : goal.decreases-loop-depth
decreases-loop-depth g l = l.depth
