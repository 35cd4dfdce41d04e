-- The fields that a mapping keeps as the mapping that definitions see.
use Rattle.std.specs.Prelude.{◌≡◌, IfSome, option_map, string_bytes}
use Rattle.lost_spec.specs.Mapping as spec
use Rattle.lost_mapping.specs.declared.mapping.Fields.{Fields}
use Rattle.lost_mapping.specs.Expires.{expires_seen}
use Rattle.lost_mapping.specs.Parts.{display_names_of}
use Rattle.lost_mapping.specs.ReferenceText.{bytes_of}
use Rattle.lost_mapping.specs.Shape.{IsShaped}
use Rattle.lost_mapping.specs.Shown.{reference_text as text_by_reference}
use Rattle.lost_mapping.specs.Texts.{texts_of}

abbrev pub mapping_with : Fields → spec.Mapping
mapping_with fields = record {
  source = fields.identity.source;
  source_id = fields.identity.source_id;
  stamp = fields.stamp;
  expires = expires_seen fields.expires;
  service = fields.service;
  uris = texts_of fields.uris.items;
  number = option_map string_bytes fields.number;
  regions = fields.regions;
  is_default = fields.is_default;
  display_names = display_names_of fields.display_names.items;
  key = option_map string_bytes fields.key;
}

-- what is kept makes a shaped mapping, and a text that is kept with it is its own
pub record IsKept (fields : Fields) : Type 0 where
  pub shaped : IsShaped (mapping_with fields)
  pub own_text : IfSome fields.reference_text (λ text. bytes_of text ≡ text_by_reference (mapping_with fields))
