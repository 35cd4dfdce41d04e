-- How the polygons of a mapping are kept.
use Rattle.std.specs.Prelude.{List, [], ◌∷◌}
use Rattle.lost_spec.specs.Ring.{Point}
use Rattle.lost_location.specs.declared.polygons.Polygons.{Polygons}
use Rattle.lost_location.specs.declared.polygons.Polygons.TheVariants.{One, Several}

-- the polygons, a single one or a list
abbrev pub polygons_in : Polygons → List (List Point)
polygons_in (One polygon) = polygon ∷ []
polygons_in (Several polygons) = polygons.items
