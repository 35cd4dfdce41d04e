-- What a `Region` of the code stands for, and the kind of a region that can be read.
use Rattle.std.specs.Prelude.{if◌then◌else◌, List, map, Option, Some, None, is_none, string_bytes}
use Rattle.lost_spec.specs.declared.places.PlaceKind.{PlaceKind}
use Rattle.lost_spec.specs.declared.places.PlaceKind.TheVariants.{Geodetic2d, Civic, XToken}
use Rattle.lost_spec.specs.Civic.{pattern_fault}
use Rattle.lost_spec.specs.Token.{is_token_set}
use Rattle.lost_spec.specs.Place as spec
use Rattle.lost_civic.specs.Pairs.{seen_pairs}
use Rattle.lost_location.specs.declared.region.Region.{Region}
use Rattle.lost_location.specs.declared.region.Region.TheVariants.{Ring, Pattern, Tokens, Unreadable}

abbrev pub region_of : Region → spec.Region
region_of (Ring positions) = spec.RingRegion positions.items
region_of (Pattern pairs) = spec.PatternRegion (seen_pairs pairs.items)
region_of (Tokens texts) = spec.TokenRegion (map string_bytes texts.items)
region_of Unreadable = spec.UnreadableRegion

abbrev pub regions_of : List Region → List spec.Region
regions_of regions = map region_of regions

-- the kind of a region that can be read and is not refused
abbrev pub region_kind : spec.Region → Option PlaceKind
region_kind (spec.RingRegion positions) = if spec.is_ring positions then Some Geodetic2d else None
region_kind (spec.PatternRegion pairs) = if is_none (pattern_fault pairs) then Some Civic else None
region_kind (spec.TokenRegion tokens) = if is_token_set tokens then Some XToken else None
region_kind spec.UnreadableRegion = None
