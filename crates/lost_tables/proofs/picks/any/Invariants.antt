use Rattle.std.proofs.Common.{◌≡◌, Bool, [], take}
use Rattle.std.specs.Prelude.{filter_map}
use Rattle.std.specs.Fn.{FnReturnsAt}
use Rattle.lost_spec.specs.Mapping as spec
use Rattle.lost_tables.specs.Picks.{passing}
use Rattle.lost_tables.proofs.picks.any.Given as goal

abbrev pub invariant-loop-candidate : goal.invariant-loop-candidate
invariant-loop-candidate g l =
    (test : spec.Mapping → Bool) → ((m : spec.Mapping) (r : Bool) → FnReturnsAt g.F.Fn l.passes m r → r ≡ test m)
    → filter_map (passing test l.rows.numbers l.rows.mappings) (take l.candidate-index l.candidates) ≡ []
