-- How the positions of a ring are kept.
use Rattle.std.specs.Prelude.{List}
use Rattle.lost_spec.specs.Ring.{Point}
use Rattle.lost_geo.specs.declared.ring.Ring.{Ring}
use Rattle.lost_geo.specs.declared.ring.Ring.TheVariants.{Plain, Long}

-- the positions, alone or with the runs of their edges
abbrev pub positions_of : Ring → List Point
positions_of (Plain positions) = positions.items
positions_of (Long ring) = ring
