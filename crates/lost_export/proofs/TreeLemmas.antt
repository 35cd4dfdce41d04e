-- The tree of a mapping says its parts.
use Rattle.std.proofs.Common.{◌≡◌, Bool, true, false, List, [], ◌∷◌, Option, None, Some, option_map, option_and_then, unwrap_or, codes, refl, ap, ◌∙◌, sym}
use Rattle.std.specs.List.{list_all, AllByRecursion}
use Rattle.serde_json.specs.Data.{Data, string, Members}
use Rattle.serde_json.specs.Find.{as_str, as_bool}
use Rattle.lost_spec.specs.Text.{Text}
use Rattle.lost_spec.specs.Service.{service_text}
use Rattle.lost_spec.specs.Place.{Regions, no_regions, is_region}
use Rattle.lost_spec.specs.Mapping.{Parts, Mapping, DisplayName}
use Rattle.lost_reading.specs.Members.{unless_null, required, optional, optional_value, defaulting, list_in}
use Rattle.lost_reading.specs.Desk.{regions_kind, display_name_in, parts_of_members}
use Rattle.lost_export.specs.Export.{list_data, texts_data, expires_text, display_name_data, display_names_data, default_data, boundary_data, publish_members}
use Rattle.lost_export.specs.ReadBack.{HasAscendingNames}
use Rattle.lost_export.proofs.KindLemmas.{listed}
use Rattle.lost_export.proofs.RegionLemmas.{texts_back, regions_back}
use Rattle.lost_export.proofs.LookupLemmas.{found_expires, found_updated, found_service, found_source, found_source_id, found_uri, found_dialled, found_boundary, found_key, found_names, found_mark}
use Rattle.lost_export.proofs.PartsLemmas.{parts_back}

-- ---- members that may be there

text_back : (text : Option Text) → optional_value as_str (option_and_then unless_null (option_map string text)) ≡ Some text
text_back None = refl
text_back (Some text) = refl

mark_back : (is_default : Bool) → option_map (λ found. unwrap_or found false) (optional_value as_bool (option_and_then unless_null (default_data is_default))) ≡ Some is_default
mark_back true = refl
mark_back false = refl

each_name : (names : List DisplayName) → list_in display_name_in (list_data display_name_data names) ≡ Some names
each_name [] = refl
each_name (name ∷ names) = ap (option_map (λ rest. name ∷ rest)) (each_name names)

names_back : (names : List DisplayName) → option_map (λ found. unwrap_or found []) (optional_value (list_in display_name_in) (option_and_then unless_null (display_names_data names))) ≡ Some names
names_back [] = refl
names_back (name ∷ names) = ap (λ read. option_map (λ found. unwrap_or found []) (option_map (λ thing. Some thing) read)) (each_name (name ∷ names))

boundary_back : (is_default : Bool) (r : Regions) → (is_default ≡ true → r ≡ no_regions) → list_all is_region (listed r) ≡ true → AllByRecursion HasAscendingNames r.patterns
    → option_map (λ found. unwrap_or found []) (optional_value regions_kind (option_and_then unless_null (boundary_data is_default r))) ≡ Some (listed r)
boundary_back true r none good ascending = ap (λ regions. Some (listed regions)) (sym (none refl))
boundary_back false r none good ascending = ap (λ read. option_map (λ found. unwrap_or found []) (option_map (λ thing. Some thing) read)) (regions_back r good ascending)

-- ---- all members

-- members that say these things say these parts
parts_of : (said : Members) (parts : Parts)
    → required as_str (codes "source") said ≡ Some parts.source
    → required as_str (codes "sourceId") said ≡ Some parts.source_id
    → required as_str (codes "lastUpdated") said ≡ Some parts.last_updated
    → required as_str (codes "expires") said ≡ Some parts.expires
    → required as_str (codes "service") said ≡ Some parts.service
    → required (list_in as_str) (codes "uri") said ≡ Some parts.uris
    → optional as_str (codes "serviceNumber") said ≡ Some parts.number
    → defaulting regions_kind [] (codes "serviceBoundary") said ≡ Some parts.regions
    → defaulting as_bool false (codes "default") said ≡ Some parts.is_default
    → defaulting (list_in display_name_in) [] (codes "displayName") said ≡ Some parts.display_names
    → optional as_str (codes "key") said ≡ Some parts.key
    → parts_of_members said ≡ Some parts
parts_of said parts source source_id updated expires service uris number regions mark names key =
    rw (source, source_id, updated, expires, service, uris, number, regions, mark, names, key) refl

-- the members of a mapping say its parts
pub parts_of-publish : (m : Mapping) → (m.is_default ≡ true → m.regions ≡ no_regions) → list_all is_region (listed m.regions) ≡ true → AllByRecursion HasAscendingNames m.regions.patterns
    → parts_of_members (publish_members m) ≡ Some (parts_back m)
parts_of-publish m none good ascending =
    let mark = default_data m.is_default in
    let names = display_names_data m.display_names in
    let key = option_map string m.key in
    let boundary = boundary_data m.is_default m.regions in
    let dialled = option_map string m.number in
    let expires = string (expires_text m.expires) in
    let updated = string m.stamp.text in
    let service = string (service_text m.service) in
    let source = string m.source in
    let source_id = string m.source_id in
    let uri = texts_data m.uris in
    let text = λ (found : Option Data). option_and_then as_str (option_and_then unless_null found) in
    let text_if = λ (found : Option Data). optional_value as_str (option_and_then unless_null found) in
    parts_of (publish_members m) (parts_back m)
    (ap text (found_source mark names key boundary dialled expires updated service source source_id uri))
    (ap text (found_source_id mark names key boundary dialled expires updated service source source_id uri))
    (ap text (found_updated mark names key boundary dialled expires updated service source source_id uri))
    (ap text (found_expires mark names key boundary dialled expires updated service source source_id uri))
    (ap text (found_service mark names key boundary dialled expires updated service source source_id uri))
    (ap (λ found. option_and_then (list_in as_str) (option_and_then unless_null found)) (found_uri mark names key boundary dialled expires updated service source source_id uri) ∙ texts_back m.uris)
    (ap text_if (found_dialled mark names key boundary dialled expires updated service source source_id uri) ∙ text_back m.number)
    (ap (λ found. option_map (λ value. unwrap_or value []) (optional_value regions_kind (option_and_then unless_null found))) (found_boundary mark names key boundary dialled expires updated service source source_id uri) ∙ boundary_back m.is_default m.regions none good ascending)
    (ap (λ found. option_map (λ value. unwrap_or value false) (optional_value as_bool (option_and_then unless_null found))) (found_mark mark names key boundary dialled expires updated service source source_id uri) ∙ mark_back m.is_default)
    (ap (λ found. option_map (λ value. unwrap_or value []) (optional_value (list_in display_name_in) (option_and_then unless_null found))) (found_names mark names key boundary dialled expires updated service source source_id uri) ∙ names_back m.display_names)
    (ap text_if (found_key mark names key boundary dialled expires updated service source source_id uri) ∙ text_back m.key)
