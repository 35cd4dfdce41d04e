-- The cell at a position, and whether a cell is one of those that bounds meet.
use Rattle.std.proofs.Common.{◌≡◌, refl, sym, ap, ◌∙◌, ℕ, zero, suc, ◌+◌, ◌*◌, ◌/◌, ◌%◌, ◌<◌, ◌≤◌, Bool, true, false, ◌&&◌, ◌||◌, eqb, Option, Some, None, option_map, List, [], ◌∷◌, ◌++◌, length, get_or, slice_get, ℤ, pos, ◌+ℤ◌, ◌-ℤ◌, ◌≤ℤ◌, ◌<ℤ◌, neg_ℤ, SFits, w16, to_z, of_z, subst, rules, arith}
use Rattle.std.specs.List.{flat_map, list_any}
use Rattle.std.specs.Ordering.{int_eq}
use Rattle.std.proofs.lemmas.Bool.{false_from_ne_true}
use Rattle.std.proofs.lemmas.Bool.Decides.{Decides-int_eq}
use Rattle.std.proofs.lemmas.Int.{ints, to_z-of_z, to_z_pos}
use Rattle.std.proofs.lemmas.List.{length-map}
use Rattle.std.proofs.lemmas.List.Folds.{list_any-append, list_any_at}
use Rattle.std.proofs.lemmas.Map.Views.{Contains-from_any}
use Rattle.std.proofs.lemmas.Option.{slice_get-map, slice_get_past, slice_get_read}
use Rattle.std.proofs.Math.Bool.{and-false, and-or_distrib_left, and-or_distrib_right}
use Rattle.std.proofs.Math.Nat.{div-add-mod, mod-lt}
use Rattle.lost_grid.specs.declared.cell.Cell.{Cell}
use Rattle.lost_grid.specs.CellsApart.{same_cell}
use Rattle.lost_geo.specs.declared.bounds.Bounds.{Bounds}
use Rattle.lost_grid.specs.Grid.{cells_in_row, cells_within, level_of}
use Rattle.lost_grid.specs.Lines.{up_to, rows, columns, IsLine}
use Rattle.lost_grid.specs.Runs.{length-up_to, get_or-up_to, Contains-up_to}

-- ---- rows and columns

fits_between : (z : ℤ) → neg_ℤ (pos 6867) ≤ℤ z → z ≤ℤ pos 6867 → SFits w16 z
fits_between z low high = search (rules, ints)

-- the first one with a position added in 16 bits
abbrev added : ℤ → ℕ → ℤ
added first i = to_z w16 (of_z w16 (to_z w16 (of_z w16 first) +ℤ to_z w16 i))

-- nothing is lost, and this is the number at the position
pub line_at : (first end : ℤ) (i : ℕ) → first ≤ℤ end → neg_ℤ (pos 6867) ≤ℤ first → end ≤ℤ pos 6867 → i < length (up_to first end)
    → (Some (added first i) ≡ slice_get (up_to first end) i) × IsLine (added first i)
line_at first end i order low high within =
    let line = first +ℤ pos i in
    let count : pos (length (up_to first end)) ≡ end -ℤ first = length-up_to first end order in
    let top : pos i <ℤ (end -ℤ first) = omega (arith, ints) in
    let own : to_z w16 (of_z w16 first) ≡ first = to_z-of_z w16 first (fits_between first low (omega (arith, ints))) in
    let wide : to_z w16 i ≡ pos i = to_z_pos w16 i (omega (arith, ints)) in
    let fits : SFits w16 line = fits_between line (omega (arith, ints)) (omega (arith, ints)) in
    let is : added first i ≡ line =
    ap (λ (z : ℤ). to_z w16 (of_z w16 (z +ℤ to_z w16 i))) own ∙ ap (λ (z : ℤ). to_z w16 (of_z w16 (first +ℤ z))) wide ∙ to_z-of_z w16 line fits in (
      ap Some is ∙ sym (slice_get_read (up_to first end) (length (up_to first end)) i line refl within (sym (get_or-up_to first end i line within))),
      subst IsLine (sym is) (record { low = omega (arith, ints); high = omega (arith, ints) }),
    )

pub none_at : (low end : ℤ) (i : ℕ) → length (up_to low end) ≤ i → None ≡ slice_get (up_to low end) i
none_at low end i past = sym (slice_get_past (up_to low end) i past)

-- a number is one of them exactly where it lies between
pub has_number : (low end z : ℤ) → low ≤ℤ z → z <ℤ end → list_any (int_eq z) (up_to low end) ≡ true
has_number low end z from before =
    let stands = Contains-up_to low end z from before in
    list_any_at (int_eq z) (up_to low end) stands.0 z stands.1 ((Decides-int_eq z (get_or (up_to low end) stands.0 z)).1 (sym stands.2))

lies_between : (low end z : ℤ) → low ≤ℤ end → list_any (int_eq z) (up_to low end) ≡ true → (low ≤ℤ z) × (z <ℤ end)
lies_between low end z order found =
    let stands = Contains-from_any (λ x y same. (Decides-int_eq x y).0 same) z (up_to low end) found in
    let is : low +ℤ pos stands.0 ≡ z = sym (get_or-up_to low end stands.0 z stands.1) ∙ stands.2 in
    let count : pos (length (up_to low end)) ≡ end -ℤ low = length-up_to low end order in
    let within = stands.1 in
    (omega (arith, ints), omega (arith, ints))

pub lacks_below : (low end z : ℤ) → low ≤ℤ end → z <ℤ low → list_any (int_eq z) (up_to low end) ≡ false
lacks_below low end z order below =
    false_from_ne_true (list_any (int_eq z) (up_to low end)) (λ found. let at = lies_between low end z order found in let from = at.0 in absurd (omega (arith, ints)))

pub lacks_above : (low end z : ℤ) → low ≤ℤ end → end ≤ℤ z → list_any (int_eq z) (up_to low end) ≡ false
lacks_above low end z order above =
    false_from_ne_true (list_any (int_eq z) (up_to low end)) (λ found. let at = lies_between low end z order found in let before = at.1 in absurd (omega (arith, ints)))

-- ---- the cell at a position

append_first : {X : Type 0} (xs ys : List X) (i : ℕ) → i < length xs → slice_get (xs ++ ys) i ≡ slice_get xs i
append_first [] ys i within = absurd (omega arith)
append_first (x ∷ xs) ys zero within = refl
append_first (x ∷ xs) ys (suc i) within = append_first xs ys i (omega arith)

append_rest : {X : Type 0} (xs ys : List X) (i : ℕ) → slice_get (xs ++ ys) (length xs + i) ≡ slice_get ys i
append_rest [] ys i = ap (slice_get ys) (omega arith)
append_rest (x ∷ xs) ys i =
    let next : length (x ∷ xs) + i ≡ suc (length xs + i) = omega arith in
    ap (slice_get (x ∷ (xs ++ ys))) next ∙ append_rest xs ys i

-- the place of a column in a row, row by row
abbrev place : ℕ → ℕ → ℕ → ℕ
place n zero r = r
place n (suc q) r = n + place n q r

place_is : (n q r : ℕ) → place n q r ≡ n * q + r
place_is n zero r = omega arith
place_is n (suc q) r =
    let before = place_is n q r in
    let product : n * suc q ≡ n + n * q = omega arith in
    omega arith

abbrev pub found : ℕ → List ℤ → ℕ → Option ℤ → Option Cell
found level cs r None = None
found level cs r (Some row) = option_map (λ (column : ℤ). record { level = level; row = row; column = column }) (slice_get cs r)

at_place : (level : ℕ) (cs rs : List ℤ) (q r : ℕ) → r < length cs → slice_get (flat_map (λ row. cells_in_row level row cs) rs) (place (length cs) q r) ≡ found level cs r (slice_get rs q)
at_place level cs [] q r within = refl
at_place level cs (row ∷ rs) zero r within =
    let cell_at : ℤ → Cell = λ (z : ℤ). record { level = level; row = row; column = z } in
    let long : length (cells_in_row level row cs) ≡ length cs = length-map cs cell_at in
    append_first (cells_in_row level row cs) (flat_map (λ y. cells_in_row level y cs) rs) r (omega arith) ∙ slice_get-map cell_at cs r
at_place level cs (row ∷ rs) (suc q) r within =
    let cell_at : ℤ → Cell = λ (z : ℤ). record { level = level; row = row; column = z } in
    let rest = flat_map (λ y. cells_in_row level y cs) rs in
    let long : length (cells_in_row level row cs) ≡ length cs = length-map cs cell_at in
    ap (λ n. slice_get (cells_in_row level row cs ++ rest) (n + place (length cs) q r)) (sym long)
    ∙ append_rest (cells_in_row level row cs) rest (place (length cs) q r) ∙ at_place level cs rs q r within

pub at_position : (level : ℕ) (cs rs : List ℤ) (count i : ℕ) → count ≡ length cs → 0 < count
    → slice_get (flat_map (λ row. cells_in_row level row cs) rs) i ≡ found level cs (i % count) (slice_get rs (i / count))
at_position level cs rs count i is some =
    let cells = flat_map (λ row. cells_in_row level row cs) rs in
    let rest : i % count < count = mod-lt i some in
    let whole : place count (i / count) (i % count) ≡ i = place_is count (i / count) (i % count) ∙ div-add-mod i count in
    ap (slice_get cells) (sym whole) ∙ ap (λ n. slice_get cells (place n (i / count) (i % count))) is
    ∙ at_place level cs rs (i / count) (i % count) (omega arith)

-- the same for the rows and columns that bounds meet at their level
columns_within : (level : ℕ) (bounds : Bounds) (cs : List ℤ) (i : ℕ) → level ≡ level_of bounds → cs ≡ columns level bounds
    → slice_get (flat_map (λ row. cells_in_row level row cs) (rows level bounds)) i ≡ slice_get (cells_within (level_of bounds) bounds) i
columns_within level bounds cs i least of_columns =
    ap (λ (ns : List ℤ). slice_get (flat_map (λ row. cells_in_row level row ns) (rows level bounds)) i) of_columns
    ∙ ap (λ (k : ℕ). slice_get (cells_within k bounds) i) least

pub found_within : (level : ℕ) (bounds : Bounds) (rs cs : List ℤ) (count i : ℕ) → level ≡ level_of bounds → rs ≡ rows level bounds → cs ≡ columns level bounds → count ≡ length cs → 0 < count
    → found level cs (i % count) (slice_get rs (i / count)) ≡ slice_get (cells_within (level_of bounds) bounds) i
found_within level bounds rs cs count i least of_rows of_columns is some =
    sym (at_position level cs rs count i is some)
    ∙ ap (λ (ns : List ℤ). slice_get (flat_map (λ row. cells_in_row level row cs) ns) i) of_rows
    ∙ columns_within level bounds cs i least of_columns

-- where there is no column, there is no cell
pub no_cells : (level : ℕ) (cs rs : List ℤ) (i : ℕ) → length cs ≡ 0 → slice_get (flat_map (λ row. cells_in_row level row cs) rs) i ≡ None
no_cells level [] [] i none = refl
no_cells level [] (row ∷ rs) i none = no_cells level [] rs i none
no_cells level (c ∷ cs) rs i none = absurd (omega arith)

pub none_within : (level : ℕ) (bounds : Bounds) (cs : List ℤ) (count i : ℕ) → level ≡ level_of bounds → cs ≡ columns level bounds → count ≡ length cs → count ≡ 0
    → None ≡ slice_get (cells_within (level_of bounds) bounds) i
none_within level bounds cs count i least of_columns is none =
    sym (no_cells level cs (rows level bounds) i (sym is ∙ none)) ∙ columns_within level bounds cs i least of_columns

-- ---- whether a cell is one of them

both_parts : (l x y c : Bool) → ((l && (x && c)) || (l && (y && c))) ≡ (l && ((x || y) && c))
both_parts l x y c = sym (and-or_distrib_left l (x && c) (y && c)) ∙ ap (λ b. l && b) (sym (and-or_distrib_right x y c))

in_row : (level : ℕ) (row : ℤ) (cs : List ℤ) (cell : Cell) → list_any (same_cell cell) (cells_in_row level row cs) ≡ (eqb cell.level level && (int_eq cell.row row && list_any (int_eq cell.column) cs))
in_row level row [] cell = sym (ap (λ b. eqb cell.level level && b) (and-false (int_eq cell.row row)) ∙ and-false (eqb cell.level level))
in_row level row (c ∷ cs) cell =
    ap (λ b. same_cell cell (record { level = level; row = row; column = c }) || b) (in_row level row cs cell)
    ∙ joined (eqb cell.level level) (int_eq cell.row row) (int_eq cell.column c) (list_any (int_eq cell.column) cs)
  where
    joined : (l x a b : Bool) → ((l && (x && a)) || (l && (x && b))) ≡ (l && (x && (a || b)))
    joined l x a b = sym (and-or_distrib_left l (x && a) (x && b)) ∙ ap (λ c. l && c) (sym (and-or_distrib_left x a b))

none_in : (l c : Bool) → false ≡ (l && (false && c))
none_in l c = sym (and-false l)

pub in_rows : (level : ℕ) (cs rs : List ℤ) (cell : Cell) → list_any (same_cell cell) (flat_map (λ row. cells_in_row level row cs) rs)
    ≡ (eqb cell.level level && (list_any (int_eq cell.row) rs && list_any (int_eq cell.column) cs))
in_rows level cs [] cell = none_in (eqb cell.level level) (list_any (int_eq cell.column) cs)
in_rows level cs (row ∷ rs) cell =
    let rest = flat_map (λ y. cells_in_row level y cs) rs in
    list_any-append (same_cell cell) (cells_in_row level row cs) rest
    ∙ ap (λ b. b || list_any (same_cell cell) rest) (in_row level row cs cell)
    ∙ ap (λ b. (eqb cell.level level && (int_eq cell.row row && list_any (int_eq cell.column) cs)) || b) (in_rows level cs rs cell)
    ∙ both_parts (eqb cell.level level) (int_eq cell.row row) (list_any (int_eq cell.row) rs) (list_any (int_eq cell.column) cs)

pub has_within : (level : ℕ) (bounds : Bounds) (cell : Cell) → level ≡ level_of bounds
    → (eqb cell.level level && (list_any (int_eq cell.row) (rows level bounds) && list_any (int_eq cell.column) (columns level bounds))) ≡ list_any (same_cell cell) (cells_within (level_of bounds) bounds)
has_within level bounds cell least =
    sym (in_rows level (columns level bounds) (rows level bounds) cell) ∙ ap (λ (k : ℕ). list_any (same_cell cell) (cells_within k bounds)) least

-- a part of a test that fails, or passes
pub first_fails : (l r c : Bool) → l ≡ false → false ≡ (l && (r && c))
first_fails l r c fails = ap (λ b. b && (r && c)) (sym fails)

pub second_fails : (l r c : Bool) → r ≡ false → false ≡ (l && (r && c))
second_fails l r c fails = none_in l c ∙ ap (λ b. l && (b && c)) (sym fails)

pub both_pass : (l r c : Bool) → l ≡ true → r ≡ true → c ≡ (l && (r && c))
both_pass l r c first second = ap (λ b. b && c) (sym second) ∙ ap (λ b. b && (r && c)) (sym first)
