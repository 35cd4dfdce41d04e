use Rattle.std.proofs.Common.{◌≡◌, Bool, false, take}
use Rattle.std.specs.List.{list_any}
use Rattle.std.specs.Fn.{FnReturnsAt}
use Rattle.lost_spec.specs.Mapping.{Mapping}
use Rattle.lost_query.proofs.book.has_some.Given as goal

abbrev pub invariant-loop-position : goal.invariant-loop-position
invariant-loop-position g l =
    (test : Mapping → Bool) → ((m : Mapping) (r : Bool) → FnReturnsAt g.F.Fn l.passes m r → r ≡ test m) → list_any test (take l.position l.book.mappings) ≡ false
