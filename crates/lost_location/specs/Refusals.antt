-- How regions are refused.
use Rattle.std.specs.Prelude.{◌≡◌, ◌≢◌, Bool, not, List, [], ◌∷◌, Option, Some, None, is_none, Result, Ok, Err, ℤ}
use Rattle.std.specs.List.{list_all}
use Rattle.lost_spec.specs.declared.faults.MappingError.{MappingError}
use Rattle.lost_spec.specs.declared.faults.MappingError.TheVariants.{BadRegion, Memory}
use Rattle.lost_spec.specs.Text.{first_fault}
use Rattle.lost_spec.specs.Ring.{point_fault}
use Rattle.lost_spec.specs.Place.{Region, is_region}

-- the answer is this refusal, or none where this is none, but for want of memory
abbrev pub Refuses : {Made : Type 0} → Result Made MappingError → Option MappingError → Type 0
Refuses (Ok made) fault = fault ≡ None
Refuses (Err refusal) fault = refusal ≢ Memory → fault ≡ Some refusal

-- the refusal of one check
abbrev pub fault_if : Bool → MappingError → Option MappingError
fault_if fails fault = first_fault ((fails, fault) ∷ [])

-- a region is bad unless this holds
abbrev pub bad_unless : Bool → Option MappingError
bad_unless is_good = fault_if (not is_good) BadRegion

-- a latitude and a longitude within their ranges
abbrev pub is_position : ℤ × ℤ → Bool
is_position position = is_none (point_fault position.0 position.1)

abbrev pub regions_fault : List Region → Option MappingError
regions_fault regions = bad_unless (list_all is_region regions)
