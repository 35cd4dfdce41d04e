use Rattle.std.proofs.Common.{◌≡◌, length}
use lib.Pointwise.{pointwise}
use Rattle.lost_spec.specs.Ring.{same_point}
use Rattle.lost_location.proofs.regions.are_same_polygons.Given as goal

abbrev pub invariant-loop-one : goal.invariant-loop-one
invariant-loop-one l =
    pointwise (λ x y. pointwise same_point x y) l.fn.ones l.fn.others ≡ pointwise (λ x y. pointwise same_point x y) l.ones l.others

abbrev pub decreases-loop-one : goal.decreases-loop-one
decreases-loop-one l = length l.ones
