-- The bounds so far are those of the positions so far, and within the ranges.
use Rattle.std.proofs.Common.{◌≡◌, ◌∷◌, take}
use Rattle.lost_geo.specs.Bounds.{bounds_of, AreInRange}
use Rattle.lost_geo.proofs.bounds.Bounds.of.Given as goal

abbrev pub invariant-loop-place : goal.invariant-loop-place
invariant-loop-place l = (l.bounds ≡ bounds_of (l.fn.first ∷ take l.place-index l.rest)) × AreInRange l.bounds
