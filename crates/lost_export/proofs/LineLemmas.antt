-- The text of a publish.
use Rattle.std.proofs.Common.{◌≡◌, false, ap, ◌∙◌}
use Rattle.serde_json.specs.Data.{Data}
use Rattle.serde_json.specs.Written.{has_float, compact_text}
use Rattle.lost_spec.specs.Text.{Text}
use Rattle.lost_spec.specs.Mapping.{Mapping}
use Rattle.lost_export.specs.Export.{publish_data, publish_json}
use Rattle.lost_export.proofs.FloatLemmas.{no_float}

-- what is printed of its tree
pub json_printed : (m : Mapping) (tree : Data) (json : Text) → tree ≡ publish_data m → (has_float tree ≡ false → json ≡ compact_text tree) → json ≡ publish_json m
unfolding publish_json
json_printed m tree json is printed = printed (ap has_float is ∙ no_float m) ∙ ap compact_text is
