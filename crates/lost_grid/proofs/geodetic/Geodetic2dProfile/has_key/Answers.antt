use Rattle.lost_grid.proofs.geodetic.Geodetic2dProfile.has_key.Goals as goal
use Rattle.std.proofs.Common.{◌∙◌, ap}
use Rattle.std.specs.List.{list_any}
use Rattle.lost_grid.specs.CellsApart.{same_cell}
use Rattle.lost_grid.specs.Grid.{cells_within, level_of}

pub returns : goal.returns
returns c = c.has_cell.ensures ∙ ap (λ bounds. list_any (same_cell c.args.key.now) (cells_within (level_of bounds) bounds)) c.bounds.ensures.bounds
