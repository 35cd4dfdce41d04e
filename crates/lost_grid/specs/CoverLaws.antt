-- The laws of covers and probes.
use Rattle.std.proofs.Common.{◌≡◌, refl, sym, subst, ap, ◌∙◌, ℕ, zero, suc, ◌<◌, ◌≤◌, Bool, true, false, not, List, [], ◌∷◌, length, map, get_or, None, ℤ, pos, ◌+ℤ◌, ◌≤ℤ◌, int_le, IsTrue, Contains, nat_lt, arith}
use Rattle.std.specs.List.{IsDistinct, flat_map}
use Rattle.std.proofs.lemmas.Bool.{and_parts}
use Rattle.std.proofs.lemmas.Int.{ints}
use Rattle.std.proofs.lemmas.List.{get_or-map, length-map}
use Rattle.std.proofs.lemmas.List.Elements.{Contains-append_left, Contains-append_right}
use Rattle.std.proofs.lemmas.List.FromFn.{length-map-range_with_len, get_or-map-range_with_len}
use Rattle.lost_profile.specs.Keys.{SharesKey}
use Rattle.lost_spec.specs.declared.faults.RingError.TheVariants.{TooShort, NotClosed, TooLong}
use Rattle.lost_spec.specs.Text.{first_fault}
use Rattle.lost_spec.specs.Ring.{Point, is_closed, inside, normal}
use Rattle.lost_geo.specs.declared.bounds.Bounds.{Bounds}
use Rattle.lost_geo.specs.Bounds.{bounds_of, is_from_to, is_within_bounds}
use Rattle.lost_geo.specs.Ranges.{IsInRange}
use Rattle.lost_geo.proofs.Within.{inside_is_within_bounds}
use Rattle.lost_grid.specs.declared.cell.Cell.{Cell}
use Rattle.lost_grid.specs.Lines.{line_of, up_to, rows, columns}
use Rattle.lost_grid.specs.Areas.{IsArea, may_hold}
use Rattle.lost_grid.specs.Grid.{level_of, cell_of, cells_in_row, cells_within, cover_of, probes_of}
use Rattle.lost_grid.specs.CellsApart.{TellsApart, numbers_apart, cells_apart}
use Rattle.lost_grid.specs.LevelLaws.{level_of_below, cells_within_few}
use Rattle.lost_grid.specs.LineOrder.{line_of_rises}
use Rattle.lost_grid.specs.Runs.{Contains-up_to}

-- ---- what stands in a list that is made of another

stands_in_map : {X Y : Type 0} (f : X → Y) (xs : List X) (x : X) → Contains xs x → Contains (map f xs) (f x)
stands_in_map f xs x stands =
    (stands.0, omega (arith, length-map xs f, stands.1), get_or-map f xs stands.0 x (f x) stands.1 ∙ ap f stands.2)

stands_in_flat_map : {X Y : Type 0} (f : X → List Y) (xs : List X) (x : X) (y : Y) (k : ℕ) → k < length xs → get_or xs k x ≡ x → Contains (f x) y → Contains (flat_map f xs) y
stands_in_flat_map f [] x y k below at stands = absurd (omega arith)
stands_in_flat_map {X} {Y} f (first ∷ xs) x y zero below at stands =
    Contains-append_left (f first) (flat_map f xs) y (subst (λ (z : X). Contains (f z) y) (sym at) stands)
stands_in_flat_map f (first ∷ xs) x y (suc k) below at stands =
    Contains-append_right (f first) (flat_map f xs) y (stands_in_flat_map f xs x y k (omega arith) at stands)

-- ---- a point within bounds

from_test : (a b : ℤ) → int_le a b ≡ true → a ≤ℤ b
from_test a b test = grind (arith, ints)

line_stands : (level : ℕ) (low high z : ℤ) → IsTrue (is_from_to low high z) → Contains (up_to (line_of level low) (line_of level high +ℤ pos 1)) (line_of level z)
line_stands level low high z between =
    let tests = and_parts (int_le low z) (int_le z high) between in
    let from = line_of_rises level low z (from_test low z tests.0) in
    let upto = line_of_rises level z high (from_test z high tests.1) in
    Contains-up_to (line_of level low) (line_of level high +ℤ pos 1) (line_of level z) from (omega (arith, ints))

-- at any level, its cell is among those that the bounds meet
cell_stands : (level : ℕ) (bounds : Bounds) (place : Point) → IsTrue (is_within_bounds bounds place) → Contains (cells_within level bounds) (cell_of level place)
cell_stands level bounds place within =
    let tests = and_parts (is_from_to bounds.lat_min bounds.lat_max place.lat) (is_from_to bounds.lon_min bounds.lon_max place.lon) within in
    let row = line_stands level bounds.lat_min bounds.lat_max place.lat tests.0 in
    let column = line_stands level bounds.lon_min bounds.lon_max place.lon tests.1 in
    stands_in_flat_map (λ (r : ℤ). cells_in_row level r (columns level bounds)) (rows level bounds) (line_of level place.lat) (cell_of level place)
    row.0 row.1 row.2
    (stands_in_map (λ (c : ℤ). record { level = level; row = line_of level place.lat; column = c }) (columns level bounds) (line_of level place.lon) column)

-- the probes have its cell at each level
probe_stands : (level : ℕ) (point : Point) → level < 7 → Contains (probes_of point) (cell_of level (normal point))
probe_stands level point below = (
  level,
  omega (arith, length-map-range_with_len (λ k. cell_of k (normal point)) 0 7),
  get_or-map-range_with_len (λ k. cell_of k (normal point)) 0 7 level level (cell_of level (normal point)) below (omega arith),
)

-- ---- the laws

closed_by : (short closed long : Bool) → first_fault ((short, TooShort) ∷ (not closed, NotClosed) ∷ (long, TooLong) ∷ []) ≡ None → closed ≡ true
closed_by true closed long none = absurd (cc)
closed_by false true long none = refl
closed_by false false long none = absurd (cc)

-- NEAR: where a point is inside a ring, its normal form is within the bounds of the ring
pub holder_is_near : (ring : List Point) (point : Point) → IsArea ring → IsInRange point → IsTrue (inside ring point) → IsTrue (may_hold (bounds_of ring) point)
holder_is_near ring point area on_earth is_inside =
    inside_is_within_bounds ring point (closed_by (nat_lt (length ring) 4) (is_closed ring) (nat_lt 4096 (length ring)) area.is_ring) is_inside

-- COVER: where a point is inside a ring, one cell is both in the cover of the ring and in the probes of the point
pub cover_meets_probes : (ring : List Point) (point : Point) → IsArea ring → IsInRange point → IsTrue (inside ring point) → SharesKey (cover_of ring) (probes_of point)
cover_meets_probes ring point area on_earth is_inside =
    let level = level_of (bounds_of ring) in
    record {
      key = cell_of (level_of (bounds_of ring)) (normal point);
      in_left = cell_stands (level_of (bounds_of ring)) (bounds_of ring) (normal point) (holder_is_near ring point area on_earth is_inside);
      in_right = probe_stands (level_of (bounds_of ring)) point (level_of_below (bounds_of ring));
    }

-- DISTINCT: no cell stands twice in a cover
pub cover_is_distinct : (same : Cell → Cell → Bool) (tells : TellsApart same) (ring : List Point) → IsDistinct same (cover_of ring)
cover_is_distinct same tells ring =
    let bounds = bounds_of ring in
    let level = level_of (bounds_of ring) in
    cells_apart same tells level (columns level bounds) (rows level bounds)
    (numbers_apart (line_of level bounds.lon_min) (line_of level bounds.lon_max +ℤ pos 1))
    (numbers_apart (line_of level bounds.lat_min) (line_of level bounds.lat_max +ℤ pos 1))

-- BOUND: a cover has at most eight cells
pub cover_is_bounded : (ring : List Point) → IsArea ring → length (cover_of ring) ≤ 8
cover_is_bounded ring area = cells_within_few (bounds_of ring) area.in_range
