-- Bounds that are equal say the same of each position.
use Rattle.std.proofs.Common.{◌≡◌, Bool, true, ◌&&◌, ℤ, ap}
use Rattle.std.specs.Ordering.{int_eq}
use Rattle.std.proofs.lemmas.Bool.{and_parts}
use Rattle.std.proofs.lemmas.Bool.Decides.{Decides-int_eq}
use Rattle.lost_spec.specs.Ring.{Point}
use Rattle.lost_geo.specs.declared.bounds.Bounds.{Bounds}
use Rattle.lost_grid.specs.Areas.{may_hold}

-- two bounds are equal by their four numbers
abbrev pub same_bounds : Bounds → Bounds → Bool
same_bounds a b =
    int_eq a.lat_min b.lat_min && (int_eq a.lat_max b.lat_max && (int_eq a.lon_min b.lon_min && int_eq a.lon_max b.lon_max))

abbrev bounds : ℤ → ℤ → ℤ → ℤ → Bounds
bounds lat_min lat_max lon_min lon_max = record { lat_min = lat_min; lat_max = lat_max; lon_min = lon_min; lon_max = lon_max }

equal_parts : (q r s t u v w x : ℤ) → q ≡ u → r ≡ v → s ≡ w → t ≡ x → bounds q r s t ≡ bounds u v w x
equal_parts q r s t u v w x first second third fourth = cc

equal_bounds : (a b : Bounds) → same_bounds a b ≡ true → a ≡ b
equal_bounds a b same =
    let first = and_parts (int_eq a.lat_min b.lat_min)
    (int_eq a.lat_max b.lat_max && (int_eq a.lon_min b.lon_min && int_eq a.lon_max b.lon_max)) same in
    let second = and_parts (int_eq a.lat_max b.lat_max) (int_eq a.lon_min b.lon_min && int_eq a.lon_max b.lon_max) first.1 in
    let third = and_parts (int_eq a.lon_min b.lon_min) (int_eq a.lon_max b.lon_max) second.1 in
    equal_parts a.lat_min a.lat_max a.lon_min a.lon_max b.lat_min b.lat_max b.lon_min b.lon_max
    ((Decides-int_eq a.lat_min b.lat_min).0 first.0) ((Decides-int_eq a.lat_max b.lat_max).0 second.0)
    ((Decides-int_eq a.lon_min b.lon_min).0 third.0) ((Decides-int_eq a.lon_max b.lon_max).0 third.1)

-- equal bounds may hold the same points
pub equal_bounds_agree : (a b : Bounds) (point : Point) → same_bounds a b ≡ true → may_hold a point ≡ may_hold b point
equal_bounds_agree a b point same = ap (λ bounds. may_hold bounds point) (equal_bounds a b same)
