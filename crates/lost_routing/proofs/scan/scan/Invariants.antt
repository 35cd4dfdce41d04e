use Rattle.std.proofs.Common.{◌≡◌, Bool, take}
use Rattle.std.specs.Fn.{FnReturnsAt}
use Rattle.lost_spec.specs.Mapping as spec
use Rattle.lost_spec.specs.Positions.{positions}
use Rattle.lost_routing.proofs.scan.scan.Given as goal

abbrev pub invariant-loop-position : goal.invariant-loop-position
invariant-loop-position g l =
    (test : spec.Mapping → Bool) → ((m : spec.Mapping) (r : Bool) → FnReturnsAt g.F.Fn l.passes m r → r ≡ test m)
    → l.found.items ≡ positions test (take l.position l.rows.mappings)
