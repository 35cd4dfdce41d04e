-- The position is divided by the number of columns.
use Rattle.std.proofs.Common.{◌≡◌, ◌∙◌, ap, ℤ, ◌<◌, ◌%◌, Some, option_map, w16, to_z, of_z, arith}
use Rattle.std.proofs.lemmas.Int.{to_z-of_z}
use Rattle.lost_grid.specs.declared.cell.Cell.{Cell}
use Rattle.lost_grid.specs.Stretch.{numbers}
use Rattle.lost_grid.proofs.Quotients.{IsLine_fits}
use Rattle.lost_grid.proofs.Positions.{found, found_within, none_within}
use Rattle.lost_grid.proofs.cover.cell_at.Goals as goal

pub returns-then-count-eq0 : goal.returns-then-count-eq0
returns-then-count-eq0 c =
    none_within c.level_of-level.result c.args.bounds.now (numbers c.columns-columns.result) c.count-count.result c.args.position
    c.level_of-level.ensures.level c.columns-columns.ensures.columns c.count-count.ensures.count c.if-count-eq0.true

pub returns-in_default : goal.returns-in_default
returns-in_default c =
    let level = c.level_of-level.result in
    let cs = numbers c.columns-columns.result in
    let count = c.count-count.result in
    let some : 0 < count = omega (arith, c.if-count-eq0.false) in
    ap (found level cs (c.args.position % count)) c.in_default.ensures.line
    ∙ found_within level c.args.bounds.now (numbers c.rows.result) cs count c.args.position c.level_of-level.ensures.level c.rows.ensures.rows c.columns-columns.ensures.columns c.count-count.ensures.count some

pub returns-in-Some-at : goal.returns-in-Some-at
returns-in-Some-at c =
    let level = c.level_of-level.result in
    let cs = numbers c.columns-columns.result in
    let count = c.count-count.result in
    let row = c.in-Some.row in
    let column = c.in-Some-at.column in
    let some : 0 < count = omega (arith, c.if-count-eq0.false) in
    let row_is : to_z w16 (of_z w16 row) ≡ row = to_z-of_z w16 row (IsLine_fits row c.in-Some.ensures.in_range) in
    let column_is : to_z w16 (of_z w16 column) ≡ column = to_z-of_z w16 column (IsLine_fits column c.in-Some-at.ensures.in_range) in
    let cell_at : ℤ → ℤ → Cell = λ y x. record { level = level; row = y; column = x } in
    ap (λ (y : ℤ). Some (cell_at y (to_z w16 (of_z w16 column)))) row_is ∙ ap (λ (x : ℤ). Some (cell_at row x)) column_is
    ∙ ap (option_map (cell_at row)) c.in-Some-at.ensures.line ∙ ap (found level cs (c.args.position % count)) c.in-Some.ensures.line
    ∙ found_within level c.args.bounds.now (numbers c.rows.result) cs count c.args.position c.level_of-level.ensures.level c.rows.ensures.rows c.columns-columns.ensures.columns c.count-count.ensures.count some

pub returns-in-None : goal.returns-in-None
returns-in-None c =
    let level = c.level_of-level.result in
    let cs = numbers c.columns-columns.result in
    let count = c.count-count.result in
    let row = c.in-Some.row in
    let some : 0 < count = omega (arith, c.if-count-eq0.false) in
    let cell_at : ℤ → Cell = λ (x : ℤ). record { level = level; row = row; column = x } in
    ap (option_map cell_at) c.in-None.ensures.line ∙ ap (found level cs (c.args.position % count)) c.in-Some.ensures.line
    ∙ found_within level c.args.bounds.now (numbers c.rows.result) cs count c.args.position c.level_of-level.ensures.level c.rows.ensures.rows c.columns-columns.ensures.columns c.count-count.ensures.count some
