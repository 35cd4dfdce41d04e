-- The parts of a mapping, by what each member of its object is.
use Rattle.std.proofs.Common.{◌≡◌, Bool, false, List, [], Option, Some, refl}
use Rattle.std.specs.Prelude.{codes}
use Rattle.serde_json.specs.Data.{Members}
use Rattle.serde_json.specs.Find.{as_bool, as_str}
use Rattle.lost_spec.specs.Place.{Region}
use Rattle.lost_spec.specs.Text.{Text}
use Rattle.lost_spec.specs.Mapping.{DisplayName}
use Rattle.lost_reading.specs.Members.{required, optional, defaulting, list_in}
use Rattle.lost_reading.specs.Desk.{regions_kind, display_name_in, parts_with_texts}

pub parts_made : (all : Members) (source source_id last_updated expires service : Text) (uris : List Text) (number : Option Text) (regions : List Region)
    (is_default : Bool) (names : List DisplayName) (key : Option Text)
    → required (list_in as_str) (codes "uri") all ≡ Some uris
    → optional as_str (codes "serviceNumber") all ≡ Some number → defaulting regions_kind [] (codes "serviceBoundary") all ≡ Some regions
    → defaulting as_bool false (codes "default") all ≡ Some is_default → defaulting (list_in display_name_in) [] (codes "displayName") all ≡ Some names
    → optional as_str (codes "key") all ≡ Some key
    → parts_with_texts source source_id last_updated expires service all ≡ Some (record {
      source = source;
      source_id = source_id;
      last_updated = last_updated;
      expires = expires;
      service = service;
      uris = uris;
      number = number;
      regions = regions;
      is_default = is_default;
      display_names = names;
      key = key;
    })
parts_made all source source_id last_updated expires service uris number regions is_default names key a b c d e f = rw (a, b, c, d, e, f) refl
