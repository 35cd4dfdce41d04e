-- The regions of one kind, written alone.
use Rattle.std.proofs.Common.{◌≡◌, map, ap, sym, refl}
use Rattle.std.proofs.lemmas.List.{append-nil}
use Rattle.serde_json.specs.Data.{array}
use Rattle.serde_json.specs.View.{items_of}
use Rattle.lost_spec.specs.declared.places.PlaceKind.TheVariants.{Geodetic2d, Civic, XToken}
use Rattle.lost_spec.specs.Place.{Regions, of_kind}
use Rattle.lost_writing.specs.Replies.{list_data, polygon_data, pattern_data, token_set_data, regions_data}

pub polygons_alone : (r : Regions) → list_data polygon_data r.polygons ≡ regions_data (of_kind Geodetic2d r)
polygons_alone r = ap (λ trees. array (items_of trees)) (sym (append-nil (map polygon_data r.polygons)))

pub patterns_alone : (r : Regions) → list_data pattern_data r.patterns ≡ regions_data (of_kind Civic r)
patterns_alone r = ap (λ trees. array (items_of trees)) (sym (append-nil (map pattern_data r.patterns)))

pub token_sets_alone : (r : Regions) → list_data token_set_data r.token_sets ≡ regions_data (of_kind XToken r)
token_sets_alone r = refl

pub ruleset alone = (polygons_alone, patterns_alone, token_sets_alone)
