-- A polygon of a mapping, by its position (own).
use Rattle.std.specs.Prelude.{ℕ, ◌<◌, List, [], length}
use Rattle.std.specs.List.{slice_index_or}
use Rattle.lost_spec.specs.Ring.{Point}
use Rattle.lost_spec.specs.Mapping.{Mapping}

-- there is a polygon at the position
abbrev pub HasPolygon : Mapping → ℕ → Type 0
HasPolygon m position = position < length m.regions.polygons

-- the polygon at the position
abbrev pub polygon_at : Mapping → ℕ → List Point
polygon_at m position = slice_index_or m.regions.polygons position []
