-- The parts of a mapping as the definitions see them: texts by their bytes.
use Rattle.std.specs.Prelude.{List, map, option_map, string_bytes}
use Rattle.std.specs.Option.{option_copied}
use Rattle.lost_spec.specs.Text.{Text}
use Rattle.lost_spec.specs.Mapping as spec
use Rattle.lost_spec.specs.Place.{Region}
use Rattle.lost_location.specs.Region.{regions_of}
use Rattle.lost_mapping.specs.declared.parts.BorrowedParts.{BorrowedParts}
use Rattle.lost_mapping.specs.declared.parts.DisplayName.{DisplayName}
use Rattle.lost_mapping.specs.declared.parts.Parts.{Parts}
use Rattle.lost_mapping.specs.Texts.{texts_of}

abbrev pub display_name_of : DisplayName → spec.DisplayName
display_name_of name = record { lang = string_bytes name.lang; text = string_bytes name.text }

abbrev pub display_names_of : List DisplayName → List spec.DisplayName
display_names_of names = map display_name_of names

abbrev pub parts_of : Parts → spec.Parts
parts_of parts = record {
  source = string_bytes parts.source;
  source_id = string_bytes parts.source_id;
  last_updated = string_bytes parts.last_updated;
  expires = string_bytes parts.expires;
  service = string_bytes parts.service;
  uris = texts_of parts.uris.items;
  number = option_map string_bytes parts.number;
  regions = regions_of parts.regions.items;
  is_default = parts.is_default;
  display_names = display_names_of parts.display_names.items;
  key = option_map string_bytes parts.key;
}

-- parts where they lie, by what the items of their lists tell
abbrev pub borrowed_parts_of : {U R N : Type 0} → (U → Text) → (R → Region) → (N → spec.DisplayName) → BorrowedParts U R N → spec.Parts
borrowed_parts_of uri_of region_of display_name_of parts = record {
  source = parts.source.now;
  source_id = parts.source_id.now;
  last_updated = parts.last_updated.now;
  expires = parts.expires.now;
  service = parts.service.now;
  uris = map uri_of parts.uris.now;
  number = option_copied parts.number;
  regions = map region_of parts.regions.now;
  is_default = parts.is_default;
  display_names = map display_name_of parts.display_names.now;
  key = option_copied parts.key;
}
