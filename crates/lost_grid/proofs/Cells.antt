-- The cells of one column, or one row, more.
use Rattle.std.proofs.Common.{◌≡◌, sym, ap, ◌∙◌, ℕ, List, [], ◌∷◌, ◌++◌, map, append_assoc, ℤ, pos, neg_ℤ, ◌+ℤ◌, ◌≤ℤ◌, ◌<ℤ◌, SFits, w16, rules, Result, Ok, Err, IfOk, Vec, Global}
use Rattle.lost_geo.specs.declared.bounds.Bounds.{Bounds}
use Rattle.std.proofs.lemmas.Int.{ints}
use Rattle.std.specs.List.{flat_map}
use Rattle.std.proofs.lemmas.List.{map-append, append-nil}
use Rattle.std.proofs.lemmas.List.Concat.{flat_map-append}
use Rattle.lost_grid.specs.declared.cell.Cell.{Cell}
use Rattle.lost_grid.specs.Lines.{up_to, rows, columns}
use Rattle.lost_grid.specs.Grid.{cells_in_row, cells_within, level_of}
use Rattle.lost_grid.specs.Runs.{up_to_more}

-- the cell of one more column
pub column_more : (level : ℕ) (row first column : ℤ) (old cells : List Cell) → first ≤ℤ column → cells ≡ old ++ cells_in_row level row (up_to first column) →
    cells ++ record { level = level; row = row; column = column } ∷ [] ≡ old ++ cells_in_row level row (up_to first (column +ℤ pos 1))
column_more level row first column old cells order before =
    let cell_at : ℤ → Cell = λ (z : ℤ). record { level = level; row = row; column = z } in
    ap (λ (front : List Cell). front ++ cell_at column ∷ []) before
    ∙ append_assoc old (map cell_at (up_to first column)) (cell_at column ∷ [])
    ∙ ap (λ (back : List Cell). old ++ back)
    (sym (map-append cell_at (up_to first column) (column ∷ [])) ∙ ap (map cell_at) (sym (up_to_more first column order)))

-- the cells of one more row
pub row_more : (f : ℤ → List Cell) (first row : ℤ) (cells : List Cell) → first ≤ℤ row → cells ≡ flat_map f (up_to first row) →
    cells ++ f row ≡ flat_map f (up_to first (row +ℤ pos 1))
row_more f first row cells order before =
    ap (λ (front : List Cell). front ++ f row) before
    ∙ ap (λ (back : List Cell). flat_map f (up_to first row) ++ back) (sym (append-nil (f row)))
    ∙ sym (flat_map-append f (up_to first row) (row ∷ []))
    ∙ ap (flat_map f) (sym (up_to_more first row order))

-- the line after one before the end fits its type
pub next_fits : (z end : ℤ) → z <ℤ end → end ≤ℤ pos 6867 → neg_ℤ (pos 6867) ≤ℤ z → SFits w16 (z +ℤ pos 1)
next_fits z end before high low = search (rules, ints)

-- the cells of the rows and columns that bounds meet
pub at_level : {E : Type 0} (level : ℕ) (bounds : Bounds) (rs cs : List ℤ) (r : Result (Vec Cell Global) E) → level ≡ level_of bounds → rs ≡ rows level bounds → cs ≡ columns level bounds →
    IfOk r (λ cells. cells.items ≡ flat_map (λ row. cells_in_row level row cs) rs) → IfOk r (λ cells. cells.items ≡ cells_within (level_of bounds) bounds)
at_level level bounds rs cs (Ok cells) at_least of_rows of_columns found =
    found
    ∙ ap (λ (ns : List ℤ). flat_map (λ row. cells_in_row level row cs) ns) of_rows
    ∙ ap (λ (ns : List ℤ). flat_map (λ row. cells_in_row level row ns) (rows level bounds)) of_columns
    ∙ ap (λ (k : ℕ). cells_within k bounds) at_least
at_level level bounds rs cs (Err e) at_least of_rows of_columns found = tt
