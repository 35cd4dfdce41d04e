-- A test of what each item of a list tells.
use Rattle.std.proofs.Common.{◌≡◌, Bool, List, [], ◌∷◌, map, refl, ap, ◌||◌}
use Rattle.std.specs.List.{list_any}

pub list_any-map : {X Y : Type 0} (test : X → Bool) (told : Y → X) (ys : List Y) → list_any test (map told ys) ≡ list_any (λ y. test (told y)) ys
list_any-map test told [] = refl
list_any-map test told (y ∷ rest) = ap (λ found. test (told y) || found) (list_any-map test told rest)
