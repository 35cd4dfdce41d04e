-- No cell stands twice among those of different rows and columns.
use Rattle.std.proofs.Common.{◌≡◌, sym, ap, ◌∙◌, ℕ, Bool, true, false, ◌&&◌, ◌%◌, eqb, List, [], ◌∷◌, ◌++◌, get_or, ℤ, pos, ◌+ℤ◌, All, arith}
use Rattle.std.specs.List.{IsDistinct, flat_map}
use Rattle.std.specs.Ordering.{int_eq}
use Rattle.std.proofs.lemmas.Bool.{false_from_ne_true, false≢true, and_parts}
use Rattle.std.proofs.lemmas.Bool.Decides.{Decides-eqb, Decides-int_eq}
use Rattle.std.proofs.lemmas.Int.{ints}
use Rattle.std.proofs.lemmas.List.Elements.{All-append, All-map, All-nil, All-head, All-tail, All-from_recursion, recursion_from_All}
use Rattle.std.proofs.lemmas.Map.Keys.{IsDistinct-head, IsDistinct-tail, IsDistinct-cons, IsDistinct-from_apart}
use Rattle.lost_grid.specs.declared.cell.Cell.{Cell}
use Rattle.lost_grid.specs.Lines.{up_to}
use Rattle.lost_grid.specs.Grid.{cells_in_row, kind_of}
use Rattle.lost_grid.specs.Runs.{get_or-up_to}

-- a test that tells cells apart
abbrev pub TellsApart : (Cell → Cell → Bool) → Type 0
TellsApart same = (a b : Cell) → (a ≡ b → ⊥) → same a b ≡ false

abbrev at : ℕ → ℤ → ℤ → Cell
at level row column = record { level = level; row = row; column = column }

-- two cells are equal by level, row and column
abbrev pub same_cell : Cell → Cell → Bool
same_cell a b = eqb a.level b.level && (int_eq a.row b.row && int_eq a.column b.column)

equal_parts : (k l : ℕ) (r s c d : ℤ) → k ≡ l → r ≡ s → c ≡ d → at k r c ≡ at l s d
equal_parts k l r s c d levels rows columns = cc

pub same_cell_tells : TellsApart same_cell
same_cell_tells a b apart =
    false_from_ne_true (same_cell a b) (λ same.
    let first = and_parts (eqb a.level b.level) (int_eq a.row b.row && int_eq a.column b.column) same in
    let rest = and_parts (int_eq a.row b.row) (int_eq a.column b.column) first.1 in
    apart (equal_parts a.level b.level a.row b.row a.column b.column
    ((Decides-eqb a.level b.level).0 first.0) ((Decides-int_eq a.row b.row).0 rest.0) ((Decides-int_eq a.column b.column).0 rest.1)))

-- equal cells are of one kind
pub equal_cells_are_of_one_kind : (a b : Cell) → same_cell a b ≡ true → kind_of a ≡ kind_of b
equal_cells_are_of_one_kind a b same =
    ap (λ level. level % 8) ((Decides-eqb a.level b.level).0 (and_parts (eqb a.level b.level) (int_eq a.row b.row && int_eq a.column b.column) same).0)

-- ---- lists of whole numbers that rise

differ : (x y : ℤ) → (x ≡ y → ⊥) → int_eq x y ≡ false
differ x y apart = false_from_ne_true (int_eq x y) (λ same. apart ((Decides-int_eq x y).0 same))

differ_from : (x y : ℤ) → int_eq x y ≡ false → x ≡ y → ⊥
differ_from x y apart same = false≢true (sym apart ∙ (Decides-int_eq x y).1 same)

pub numbers_apart : (low end : ℤ) → IsDistinct int_eq (up_to low end)
numbers_apart low end =
    IsDistinct-from_apart int_eq (up_to low end) (λ i j d before below.
    let one : get_or (up_to low end) i d ≡ low +ℤ pos i = get_or-up_to low end i d (omega arith) in
    let other : get_or (up_to low end) j d ≡ low +ℤ pos j = get_or-up_to low end j d below in
    differ (get_or (up_to low end) i d) (get_or (up_to low end) j d) (λ same. omega (arith, ints)))

-- ---- joined lists

append_apart : {K : Type 0} (same : K → K → Bool) (xs ys : List K) → IsDistinct same xs → IsDistinct same ys →
    All (λ x. All (λ y. same x y ≡ false) ys) xs → IsDistinct same (xs ++ ys)
append_apart same [] ys front back across = back
append_apart same (x ∷ xs) ys front back across =
    IsDistinct-cons same x (xs ++ ys)
    (recursion_from_All (λ y. same x y ≡ false) (xs ++ ys)
    (All-append (λ y. same x y ≡ false) xs ys
    (All-from_recursion (λ y. same x y ≡ false) xs (IsDistinct-head same x xs front))
    (All-head (λ z. All (λ y. same z y ≡ false) ys) x xs across)))
    (append_apart same xs ys (IsDistinct-tail same x xs front) back (All-tail (λ z. All (λ y. same z y ≡ false) ys) x xs across))

-- ---- cells

columns_differ : (same : Cell → Cell → Bool) (tells : TellsApart same) (level : ℕ) (row c d : ℤ) → int_eq c d ≡ false → same (at level row c) (at level row d) ≡ false
columns_differ same tells level row c d apart =
    tells (at level row c) (at level row d) (λ equal. differ_from c d apart (ap (λ (cell : Cell). cell.column) equal))

rows_differ : (same : Cell → Cell → Bool) (tells : TellsApart same) (level : ℕ) (r s c d : ℤ) → int_eq r s ≡ false → same (at level r c) (at level s d) ≡ false
rows_differ same tells level r s c d apart =
    tells (at level r c) (at level s d) (λ equal. differ_from r s apart (ap (λ (cell : Cell). cell.row) equal))

row_apart : (same : Cell → Cell → Bool) (tells : TellsApart same) (level : ℕ) (row : ℤ) (cs : List ℤ) → IsDistinct int_eq cs → IsDistinct same (cells_in_row level row cs)
unfolding IsDistinct
row_apart same tells level row [] distinct = tt
row_apart same tells level row (c ∷ cs) distinct =
    let head : All (λ d. int_eq c d ≡ false) cs = All-from_recursion (λ d. int_eq c d ≡ false) cs (IsDistinct-head int_eq c cs distinct) in
    IsDistinct-cons same (at level row c) (cells_in_row level row cs)
    (recursion_from_All (λ y. same (at level row c) y ≡ false) (cells_in_row level row cs)
    (All-map (λ y. same (at level row c) y ≡ false) (at level row) cs
    (λ i d below. columns_differ same tells level row c (get_or cs i d) (head i d below))))
    (row_apart same tells level row cs (IsDistinct-tail int_eq c cs distinct))

later_rows : (same : Cell → Cell → Bool) (tells : TellsApart same) (level : ℕ) (r c : ℤ) (cs rs : List ℤ) → All (λ s. int_eq r s ≡ false) rs →
    All (λ y. same (at level r c) y ≡ false) (flat_map (λ row. cells_in_row level row cs) rs)
later_rows same tells level r c cs [] apart = All-nil (λ y. same (at level r c) y ≡ false)
later_rows same tells level r c cs (s ∷ rs) apart =
    All-append (λ y. same (at level r c) y ≡ false) (cells_in_row level s cs) (flat_map (λ row. cells_in_row level row cs) rs)
    (All-map (λ y. same (at level r c) y ≡ false) (at level s) cs
    (λ i d below. rows_differ same tells level r s c (get_or cs i d) (All-head (λ z. int_eq r z ≡ false) s rs apart)))
    (later_rows same tells level r c cs rs (All-tail (λ z. int_eq r z ≡ false) s rs apart))

pub cells_apart : (same : Cell → Cell → Bool) (tells : TellsApart same) (level : ℕ) (cs rs : List ℤ) → IsDistinct int_eq cs → IsDistinct int_eq rs →
    IsDistinct same (flat_map (λ row. cells_in_row level row cs) rs)
unfolding IsDistinct
cells_apart same tells level cs [] columns rows = tt
cells_apart same tells level cs (r ∷ rs) columns rows =
    let f = λ (row : ℤ). cells_in_row level row cs in
    let head : All (λ s. int_eq r s ≡ false) rs = All-from_recursion (λ s. int_eq r s ≡ false) rs (IsDistinct-head int_eq r rs rows) in
    append_apart same (cells_in_row level r cs) (flat_map f rs) (row_apart same tells level r cs columns)
    (cells_apart same tells level cs rs columns (IsDistinct-tail int_eq r rs rows))
    (All-map (λ x. All (λ y. same x y ≡ false) (flat_map f rs)) (at level r) cs
    (λ i d below. later_rows same tells level r (get_or cs i d) cs rs head))
