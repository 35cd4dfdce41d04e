-- A test of the profile of each location is a test of the profiles that definitions see.
use Rattle.std.proofs.Common.{◌≡◌, Bool, List, [], ◌∷◌, map, refl, ap, ◌||◌}
use Rattle.std.specs.List.{list_any}
use Rattle.std.specs.Cow.{cow_str_bytes}
use Rattle.lost_spec.specs.Text.{Text}
use Rattle.lost_mapping.specs.declared.request.Location.{Location}
use Rattle.lost_mapping.specs.Request.{location_of}

pub list_any-profiles : (test : Text → Bool) (locations : List Location)
    → list_any (λ location. test (cow_str_bytes location.profile)) locations ≡ list_any test (map (λ location. location.profile) (map location_of locations))
list_any-profiles test [] = refl
list_any-profiles test (location ∷ rest) = ap (λ found. test (cow_str_bytes location.profile) || found) (list_any-profiles test rest)
