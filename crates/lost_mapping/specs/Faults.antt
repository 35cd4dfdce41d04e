-- The refusals of parts, in groups that one function each checks, in the order of their codes.
use Rattle.std.specs.Prelude.{ℕ, Bool, true, false, not, ◌||◌, List, [], ◌∷◌, length, Option, is_err, nat_lt, ◌==◌}
use Rattle.std.specs.List.{list_any}
use Rattle.std.specs.Option.{option_or}
use Rattle.lost_spec.specs.declared.faults.MappingError.{MappingError}
use Rattle.lost_spec.specs.declared.faults.MappingError.TheVariants.{BadStamp, BadExpires, BadService, BadUri, BadNumber, RegionMissing, TooLarge, BadKey}
use Rattle.lost_spec.specs.Place.{by_kind}
use Rattle.lost_spec.specs.Text.{Text, first_fault}
use Rattle.lost_spec.specs.Service.{read_service}
use Rattle.lost_spec.specs.Moment.{is_stamp}
use Rattle.lost_location.specs.declared.counts.Counts.{Counts}
use Rattle.lost_location.specs.Counted.{are_over, counts_of}
use Rattle.lost_location.specs.Refusals.{fault_if, regions_fault}
use Rattle.lost_mapping.specs.Identity.{identity_fault}
use Rattle.lost_spec.specs.Mapping.{Parts, DisplayName, is_expires, are_uris, is_number, has_right_key}

-- ---- what stands at the head

-- the first refusal of a stamp, an end and a service
abbrev pub terms_fault : Text → Text → Text → Option MappingError
terms_fault last_updated expires service =
    option_or (fault_if (not (is_stamp last_updated)) BadStamp) (
    option_or (fault_if (not (is_expires expires)) BadExpires) (fault_if (is_err (read_service service)) BadService))

-- the first refusal of a source, a sourceId, a stamp, an end and a service
abbrev pub head_fault_of : Text → Text → Text → Text → Text → Option MappingError
head_fault_of source source_id last_updated expires service =
    option_or (identity_fault source source_id) (terms_fault last_updated expires service)

abbrev pub head_fault : Parts → Option MappingError
head_fault parts = head_fault_of parts.source parts.source_id parts.last_updated parts.expires parts.service

-- ---- how the service is reached

abbrev pub contact_fault : Parts → Option MappingError
contact_fault parts = first_fault ((not (are_uris parts.uris), BadUri) ∷ (not (is_number parts.number), BadNumber) ∷ [])

-- ---- what does not go together, and what is too much

-- a default has no region, and any other mapping has one: by their number
abbrev pub has_right_count : Bool → ℕ → Bool
has_right_count true count = count == 0
has_right_count false count = nat_lt 0 count

-- too many regions of a kind or display names, or a display name that is too long
abbrev pub is_oversized : Counts → List DisplayName → Bool
is_oversized counts names =
    are_over counts || nat_lt 16 (length names)
    || list_any (λ name. nat_lt 1024 (length name.lang) || nat_lt 1024 (length name.text)) names

abbrev pub shape_fault : Bool → ℕ → Counts → List DisplayName → Option Text → Option MappingError
shape_fault is_default count counts names key =
    first_fault (
    (not (has_right_count is_default count), RegionMissing)
    ∷ (is_oversized counts names, TooLarge)
    ∷ (not (has_right_key is_default key), BadKey) ∷ [])

-- where the mapping holds, and all that is refused after it
abbrev pub areas_fault : Parts → Option MappingError
areas_fault parts =
    option_or (regions_fault parts.regions)
    (shape_fault parts.is_default (length parts.regions) (counts_of (by_kind parts.regions)) parts.display_names parts.key)
