-- The lines of what is held, piece by piece. (Own.)
use Rattle.std.specs.Prelude.{◌≡◌, ◌<◌, ◌≤◌, ℕ, ◌-◌, List, length, take, drop}
use Rattle.std.specs.List.{flat_map}
use Rattle.lost_spec.specs.Text.{Text}
use Rattle.lost_spec.specs.Mapping.{Mapping}
use Rattle.lost_export.specs.Export.{publish_text}

-- the lines of the mappings between two positions
abbrev pub lines_between : List Mapping → ℕ → ℕ → Text
lines_between mappings from next = flat_map publish_text (take (next - from) (drop from mappings))

-- a piece of a map's lines, from a position on: at least one line, and no further than there are mappings
pub record IsPiece (mappings : List Mapping) (from next : ℕ) (text : Text) : Type 0 where
  pub lines : text ≡ lines_between mappings from next
  pub goes_on : from < next
  pub within : next ≤ length mappings
