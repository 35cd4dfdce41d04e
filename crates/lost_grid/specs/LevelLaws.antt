-- The level of a cover: it is one of the seven, and bounds meet few of its cells.
use Rattle.std.proofs.Common.{◌≡◌, refl, ℕ, zero, suc, ◌+◌, ◌*◌, ◌<◌, ◌≤◌, Bool, true, false, cond, List, [], ◌∷◌, length, Option, Some, ℤ, pos, neg_ℤ, ◌+ℤ◌, ◌-ℤ◌, ◌≤ℤ◌, nat_le, arith}
use Rattle.std.specs.List.{find, flat_map, range_with_len}
use Rattle.std.specs.Option.{unwrap_or}
use Rattle.std.proofs.Math.Nat.{mul-le-mul}
use Rattle.std.proofs.lemmas.Bool.Decides.{nat_tests}
use Rattle.std.proofs.lemmas.Int.{ints}
use Rattle.std.proofs.lemmas.List.{length-append, length-map}
use Rattle.lost_spec.specs.Ring.{lat_limit, lon_limit}
use Rattle.lost_geo.specs.declared.bounds.Bounds.{Bounds}
use Rattle.lost_geo.specs.Bounds.{AreInRange}
use Rattle.lost_grid.specs.Lines.{line_of, up_to, rows, columns}
use Rattle.lost_grid.specs.Grid.{levels, are_few, level_of, cells_in_row, cells_within}
use Rattle.lost_grid.specs.LineOrder.{line_of_rises}
use Rattle.lost_grid.specs.Runs.{length-up_to}

-- ---- the number that is found, or another

found_step : (P : ℕ → Type 0) (test : ℕ → Bool) (x other : ℕ) (passes : Bool) (rest : Option ℕ) → test x ≡ passes →
    (test x ≡ true → P x) → P (unwrap_or rest other) → P (unwrap_or (cond passes (Some x) rest) other)
found_step P test x other true rest is here later = here is
found_step P test x other false rest is here later = later

found_passes : (test : ℕ → Bool) (xs : List ℕ) (other : ℕ) → test other ≡ true → test (unwrap_or (find test xs) other) ≡ true
found_passes test [] other last = last
found_passes test (x ∷ xs) other last =
    found_step (λ y. test y ≡ true) test x other (test x) (find test xs) refl (λ here. here) (found_passes test xs other last)

found_below : (test : ℕ → Bool) (low n other top : ℕ) → other < top → low + n ≤ top → unwrap_or (find test (range_with_len low n)) other < top
found_below test low zero other top last within = last
found_below test low (suc n) other top last within =
    found_step (λ y. y < top) test low other (test low) (find test (range_with_len (low + 1) n)) refl (λ _. omega arith)
    (found_below test (low + 1) n other top last (omega arith))

-- the level is one of the seven
pub level_of_below : (bounds : Bounds) → level_of bounds < 7
level_of_below bounds = found_below (are_few bounds) 0 7 6 7 (omega arith) (omega arith)

-- ---- the largest cells

lines_at_most : (low high least greatest : ℤ) → low ≤ℤ high → least ≤ℤ line_of 6 low → line_of 6 high ≤ℤ greatest → (n : ℕ) → greatest -ℤ least ≡ pos n →
    length (up_to (line_of 6 low) (line_of 6 high +ℤ pos 1)) ≤ n + 1
lines_at_most low high least greatest order from upto n apart =
    let rises : line_of 6 low ≤ℤ line_of 6 high = line_of_rises 6 low high order in
    let count : pos (length (up_to (line_of 6 low) (line_of 6 high +ℤ pos 1))) ≡ (line_of 6 high +ℤ pos 1) -ℤ line_of 6 low =
    length-up_to (line_of 6 low) (line_of 6 high +ℤ pos 1) (omega (arith, ints)) in
    omega (arith, ints)

few_product : (m n : ℕ) → m ≤ 2 → n ≤ 4 → nat_le (m * n) 8 ≡ true
few_product m n two four =
    let product : m * n ≤ 2 * 4 = mul-le-mul two four in
    grind (arith, nat_tests)

few_largest : (bounds : Bounds) → AreInRange bounds → are_few bounds 6 ≡ true
few_largest bounds in_range =
    let south : neg_ℤ (pos 1) ≤ℤ line_of 6 bounds.lat_min = line_of_rises 6 (neg_ℤ lat_limit) bounds.lat_min in_range.lat_low in
    let north : line_of 6 bounds.lat_max ≤ℤ pos 0 = line_of_rises 6 bounds.lat_max lat_limit in_range.lat_high in
    let west : neg_ℤ (pos 2) ≤ℤ line_of 6 bounds.lon_min = line_of_rises 6 (neg_ℤ lon_limit) bounds.lon_min in_range.lon_low in
    let east : line_of 6 bounds.lon_max ≤ℤ pos 1 = line_of_rises 6 bounds.lon_max lon_limit in_range.lon_high in
    let two : length (rows 6 bounds) ≤ 2 = lines_at_most bounds.lat_min bounds.lat_max (neg_ℤ (pos 1)) (pos 0) in_range.lat_order south north 1 refl in
    let four : length (columns 6 bounds) ≤ 4 = lines_at_most bounds.lon_min bounds.lon_max (neg_ℤ (pos 2)) (pos 1) in_range.lon_order west east 3 refl in
    few_product (length (rows 6 bounds)) (length (columns 6 bounds)) two four

-- ---- how many cells

length-cells : (level : ℕ) (cs rs : List ℤ) → length (flat_map (λ row. cells_in_row level row cs) rs) ≡ length rs * length cs
length-cells level cs [] = omega arith
length-cells level cs (r ∷ rs) =
    let here : length (cells_in_row level r cs) ≡ length cs = length-map cs (λ (column : ℤ). record { level = level; row = r; column = column }) in
    let later = length-cells level cs rs in
    simp length-append (omega (arith, here, later))

few_counted : (product count : ℕ) → nat_le product 8 ≡ true → count ≡ product → count ≤ 8
few_counted product count few is = grind (arith, nat_tests)

pub cells_within_few : (bounds : Bounds) → AreInRange bounds → length (cells_within (level_of bounds) bounds) ≤ 8
cells_within_few bounds in_range =
    let few : are_few bounds (level_of bounds) ≡ true = found_passes (are_few bounds) levels 6 (few_largest bounds in_range) in
    let count = length-cells (level_of bounds) (columns (level_of bounds) bounds) (rows (level_of bounds) bounds) in
    few_counted (length (rows (level_of bounds) bounds) * length (columns (level_of bounds) bounds)) (length (cells_within (level_of bounds) bounds)) few count
