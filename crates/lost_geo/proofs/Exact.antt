-- The folds by which bounds are defined give the least and the greatest.
use Rattle.std.proofs.Common.{◌≡◌, refl, sym, suc, ◌⊎◌, inl, inr, List, [], ◌∷◌, None, Contains, fold, arith, ℤ, ◌≤ℤ◌}
use Rattle.std.specs.Int.{int_min, int_max}
use Rattle.std.proofs.lemmas.Int.{fold-int_min_bounds, fold-int_min_reached, fold-int_max_bounds, fold-int_max_reached}
use Rattle.std.proofs.lemmas.List.Elements.{All-cons}
use Rattle.lost_spec.specs.Ring.{Point, ring_fault}
use Rattle.lost_geo.specs.declared.bounds.Bounds.{Bounds}
use Rattle.lost_geo.specs.Bounds.{lats, lons, least, greatest, bounds_of, IsLeast, IsGreatest, AreExact}

stands : (z : ℤ) (zs : List ℤ) (r : ℤ) → (r ≡ z) ⊎ Contains zs r → Contains (z ∷ zs) r
stands z zs r (inl e) = (0, omega arith, sym e)
stands z zs r (inr c) = (suc c.0, omega arith, c.2)

pub IsLeast-least : (z : ℤ) (zs : List ℤ) → IsLeast (least (z ∷ zs)) (z ∷ zs)
IsLeast-least z zs =
    let bounds = fold-int_min_bounds z zs (fold int_min z zs) refl in (
      stands z zs (fold int_min z zs) (fold-int_min_reached z zs (fold int_min z zs) refl),
      All-cons (λ y. least (z ∷ zs) ≤ℤ y) z zs bounds.0 bounds.1,
    )

pub IsGreatest-greatest : (z : ℤ) (zs : List ℤ) → IsGreatest (greatest (z ∷ zs)) (z ∷ zs)
IsGreatest-greatest z zs =
    let bounds = fold-int_max_bounds z zs (fold int_max z zs) refl in (
      stands z zs (fold int_max z zs) (fold-int_max_reached z zs (fold int_max z zs) refl),
      All-cons (λ y. y ≤ℤ greatest (z ∷ zs)) z zs bounds.0 bounds.1,
    )

-- the bounds of a list that has a position are exact
pub AreExact-bounds_of : (p : Point) (rest : List Point) → AreExact (bounds_of (p ∷ rest)) (p ∷ rest)
AreExact-bounds_of p rest = record {
  lat_min = IsLeast-least p.lat (lats rest);
  lat_max = IsGreatest-greatest p.lat (lats rest);
  lon_min = IsLeast-least p.lon (lons rest);
  lon_max = IsGreatest-greatest p.lon (lons rest);
}

-- those of a ring are
pub AreExact-ring : (bounds : Bounds) (ring : List Point) → ring_fault ring ≡ None → bounds ≡ bounds_of ring → AreExact bounds ring
AreExact-ring bounds [] is_ring at = absurd (cc)
AreExact-ring bounds (p ∷ rest) is_ring at = rw at (AreExact-bounds_of p rest)
