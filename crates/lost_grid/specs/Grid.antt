-- Cells of seven sizes over the plane of latitudes and longitudes: which cells a ring and a point are noted under (own).
use Rattle.std.specs.Prelude.{ℕ, ◌*◌, ◌%◌, Bool, List, map, length, ℤ, nat_le}
use Rattle.std.specs.List.{find, flat_map, range_with_len}
use Rattle.std.specs.Option.{unwrap_or}
use Rattle.lost_spec.specs.Ring.{Point, normal}
use Rattle.lost_geo.specs.declared.bounds.Bounds.{Bounds}
use Rattle.lost_geo.specs.Bounds.{bounds_of}
use Rattle.lost_grid.specs.declared.cell.Cell.{Cell}
use Rattle.lost_grid.specs.Lines.{line_of, rows, columns}

-- the levels, from that of the smallest cells to that of the largest
abbrev pub levels : List ℕ
levels = range_with_len 0 7

-- the cell of a level that a position is in
abbrev pub cell_of : ℕ → Point → Cell
cell_of level p = record { level = level; row = line_of level p.lat; column = line_of level p.lon }

-- ---- the cover of a ring

-- the bounds meet at most eight cells of the level
abbrev pub are_few : Bounds → ℕ → Bool
are_few bounds level = nat_le (length (rows level bounds) * length (columns level bounds)) 8

-- the least level at which the bounds meet at most eight cells
abbrev pub level_of : Bounds → ℕ
level_of bounds = unwrap_or (find (are_few bounds) levels) 6

-- the cells of a row in some columns, and those of a level that the bounds meet: by row, and then by column
abbrev pub cells_in_row : ℕ → ℤ → List ℤ → List Cell
cells_in_row level row columns = map (λ column. record { level = level; row = row; column = column }) columns

abbrev pub cells_within : ℕ → Bounds → List Cell
cells_within level bounds = flat_map (λ row. cells_in_row level row (columns level bounds)) (rows level bounds)

abbrev pub cover_of : List Point → List Cell
cover_of ring = let bounds = bounds_of ring in cells_within (level_of bounds) bounds

-- ---- the probes of a point

-- the cells of its normal form, at each level
abbrev pub probes_of : Point → List Cell
probes_of point = map (λ level. cell_of level (normal point)) levels

-- ---- the kind of a cell

-- its level, since levels are below 8
abbrev pub kind_of : Cell → ℕ
kind_of cell = cell.level % 8
