-- Its level, its row and its column are asked in turn.
use Rattle.std.proofs.Common.{◌≡◌, ◌∙◌, ap, sym, ℤ, w16, rules, eqb}
use Rattle.std.specs.List.{list_any}
use Rattle.std.specs.Ordering.{int_eq}
use Rattle.std.proofs.lemmas.Bool.{false_from_ne_true}
use Rattle.std.proofs.lemmas.Bool.Decides.{Decides-eqb}
use Rattle.std.proofs.lemmas.Int.{to_z-of_z}
use Rattle.lost_grid.specs.Lines.{rows, columns}
use Rattle.lost_grid.specs.Stretch.{numbers}
use Rattle.lost_grid.proofs.Positions.{has_within, first_fails, second_fails, both_pass}
use Rattle.lost_grid.proofs.cover.has_cell.Goals as goal

pub returns-then-cell-level : goal.returns-then-cell-level
returns-then-cell-level c =
    let cell = c.args.cell in
    let bounds = c.args.bounds.now in
    let level = c.level_of-level.result in
    first_fails (eqb cell.level level) (list_any (int_eq cell.row) (rows level bounds)) (list_any (int_eq cell.column) (columns level bounds))
    (false_from_ne_true (eqb cell.level level) (λ same. c.if-cell-level.true ((Decides-eqb cell.level level).0 same)))
    ∙ has_within level bounds cell c.level_of-level.ensures.level

pub returns-then-not-has : goal.returns-then-not-has
returns-then-not-has c =
    let cell = c.args.cell in
    let bounds = c.args.bounds.now in
    let level = c.level_of-level.result in
    let row : c.has.result ≡ list_any (int_eq cell.row) (rows level bounds) = c.has.ensures ∙ ap (λ (z : ℤ). list_any (int_eq z) (numbers c.rows.result)) (to_z-of_z w16 cell.row (search rules)) ∙ ap (list_any (int_eq cell.row)) c.rows.ensures.rows in
    second_fails (eqb cell.level level) (list_any (int_eq cell.row) (rows level bounds)) (list_any (int_eq cell.column) (columns level bounds))
    (sym row ∙ c.if-not-has.true) ∙ has_within level bounds cell c.level_of-level.ensures.level

pub returns : goal.returns
returns c =
    let cell = c.args.cell in
    let bounds = c.args.bounds.now in
    let level = c.level_of-level.result in
    let row : c.has.result ≡ list_any (int_eq cell.row) (rows level bounds) = c.has.ensures ∙ ap (λ (z : ℤ). list_any (int_eq z) (numbers c.rows.result)) (to_z-of_z w16 cell.row (search rules)) ∙ ap (list_any (int_eq cell.row)) c.rows.ensures.rows in
    let column : c.has-2.result ≡ list_any (int_eq cell.column) (columns level bounds) = c.has-2.ensures ∙ ap (λ (z : ℤ). list_any (int_eq z) (numbers c.columns.result)) (to_z-of_z w16 cell.column (search rules)) ∙ ap (list_any (int_eq cell.column)) c.columns.ensures.columns in
    column ∙ both_pass (eqb cell.level level) (list_any (int_eq cell.row) (rows level bounds)) (list_any (int_eq cell.column) (columns level bounds))
    ((Decides-eqb cell.level level).1 c.if-cell-level.false) (sym row ∙ c.if-not-has.false) ∙ has_within level bounds cell c.level_of-level.ensures.level
