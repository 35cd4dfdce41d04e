-- Rings as regions (own).
use Rattle.std.specs.Prelude.{◌≡◌, Bool, List, None}
use Rattle.lost_spec.specs.Ring.{Point, ring_fault, normal}
use Rattle.lost_geo.specs.declared.bounds.Bounds.{Bounds}
use Rattle.lost_geo.specs.Bounds.{bounds_of, is_within_bounds, AreInRange}

-- the positions make a ring, and lie within the ranges of latitude and longitude
pub record IsArea (ring : List Point) : Type 0 where
  pub is_ring : ring_fault ring ≡ None
  pub in_range : AreInRange (bounds_of ring)

-- the point's normal form is within the bounds, the four bounds included
abbrev pub may_hold : Bounds → Point → Bool
may_hold bounds point = is_within_bounds bounds (normal point)
