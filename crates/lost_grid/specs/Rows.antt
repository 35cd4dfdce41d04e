-- The worked rows of cells, each as a fact that holds by computing.
use Rattle.std.specs.Prelude.{◌≡◌, ℕ, List, [], ◌∷◌, map, ℤ, pos, negsuc}
use Rattle.lost_spec.specs.Examples.{points, square, ring_a, far_ring, world_ring}
use Rattle.lost_grid.specs.declared.cell.Cell.{Cell}
use Rattle.lost_grid.specs.Grid.{cover_of, probes_of}

-- the cells of one level with these rows and columns
abbrev pub cells : ℕ → List (ℤ × ℤ) → List Cell
cells level places = map (λ place. record { level = level; row = place.0; column = place.1 }) places

-- a square of a degree is kept under one cell, and a point is looked up under seven
abbrev pub CoversRow : Type 0
CoversRow =
    (cover_of (points ring_a) ≡ cells 3 ((pos 0, pos 0) ∷ []))
    × (probes_of (record { lat = pos 5_000_000; lon = pos 5_000_000 })
    ≡ record { level = 0; row = pos 19; column = pos 19 }
    ∷ record { level = 1; row = pos 4; column = pos 4 }
    ∷ record { level = 2; row = pos 1; column = pos 1 }
    ∷ record { level = 3; row = pos 0; column = pos 0 }
    ∷ record { level = 4; row = pos 0; column = pos 0 }
    ∷ record { level = 5; row = pos 0; column = pos 0 }
    ∷ record { level = 6; row = pos 0; column = pos 0 } ∷ [])

-- a far square of a degree, which meets a line of the grid each way, is kept under four cells
abbrev pub FarRow : Type 0
FarRow =
    cover_of (points far_ring)
    ≡ cells 3 ((pos 2, pos 2) ∷ (pos 2, pos 3)
    ∷ (pos 3, pos 2) ∷ (pos 3, pos 3) ∷ [])

-- the whole earth is kept under the eight cells of the last level
abbrev pub PolesRow : Type 0
PolesRow =
    cover_of (points world_ring)
    ≡ cells 6 ((negsuc 0, negsuc 1) ∷ (negsuc 0, negsuc 0) ∷ (negsuc 0, pos 0) ∷ (negsuc 0, pos 1)
    ∷ (pos 0, negsuc 1) ∷ (pos 0, negsuc 0) ∷ (pos 0, pos 0) ∷ (pos 0, pos 1) ∷ [])

-- what is a little under two cells of level 2 high and under four of them wide is kept under these eight
abbrev pub FullRow : Type 0
FullRow =
    cover_of (points (square (pos 0) (pos 0) (pos 8_388_607) (pos 16_777_215)))
    ≡ cells 2 ((pos 0, pos 0) ∷ (pos 0, pos 1) ∷ (pos 0, pos 2) ∷ (pos 0, pos 3)
    ∷ (pos 1, pos 0) ∷ (pos 1, pos 1) ∷ (pos 1, pos 2) ∷ (pos 1, pos 3) ∷ [])

-- what is two such cells high reaches a third row, and so is kept under one cell of level 3
abbrev pub NextLevelRow : Type 0
NextLevelRow =
    cover_of (points (square (pos 0) (pos 0) (pos 8_388_608) (pos 16_777_215)))
    ≡ cells 3 ((pos 0, pos 0) ∷ [])
