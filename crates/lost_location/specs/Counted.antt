-- How many regions of each kind there are.
use Rattle.std.specs.Prelude.{ℕ, ◌+◌, Bool, ◌||◌, if◌then◌else◌, List, length, Option, Some, None, nat_lt}
use Rattle.std.specs.List.{list_all}
use Rattle.lost_spec.specs.declared.places.PlaceKind.{PlaceKind}
use Rattle.lost_spec.specs.declared.places.PlaceKind.TheVariants.{Geodetic2d, Civic, XToken}
use Rattle.lost_spec.specs.Place.{Region, Regions, is_region, by_kind}
use Rattle.lost_location.specs.declared.counts.Counts.{Counts}

abbrev pub no_counts : Counts
no_counts = record { polygons = 0; patterns = 0; token_sets = 0 }

-- one more of a kind
abbrev pub with_one : PlaceKind → Counts → Counts
with_one Geodetic2d counts = record { polygons = counts.polygons + 1; patterns = counts.patterns; token_sets = counts.token_sets }
with_one Civic counts = record { polygons = counts.polygons; patterns = counts.patterns + 1; token_sets = counts.token_sets }
with_one XToken counts = record { polygons = counts.polygons; patterns = counts.patterns; token_sets = counts.token_sets + 1 }

abbrev pub total : Counts → ℕ
total counts = counts.polygons + counts.patterns + counts.token_sets

-- over 64 polygons, over 256 patterns, or over 64 token sets (own)
abbrev pub are_over : Counts → Bool
are_over counts = nat_lt 64 counts.polygons || nat_lt 256 counts.patterns || nat_lt 64 counts.token_sets

abbrev pub counts_of : Regions → Counts
counts_of r = record { polygons = length r.polygons; patterns = length r.patterns; token_sets = length r.token_sets }

-- how many regions of each kind there are; nothing where one of them cannot be read
abbrev pub region_counts : List Region → Option Counts
region_counts regions = if list_all is_region regions then Some (counts_of (by_kind regions)) else None
