use Rattle.std.proofs.Common.{w16, SFits}
use Rattle.std.proofs.lemmas.Int.{to_z-of_z}
use Rattle.lost_grid.specs.Lines.{line_of, IsLine}
use Rattle.lost_grid.proofs.Quotients.{IsLine-line_of, IsLine_fits, shifted}
use Rattle.lost_grid.proofs.lines.line_of.Goals as goal

pub overflow_cast-result-2 : goal.overflow_cast-result-2
overflow_cast-result-2 c =
    let is_line : IsLine (line_of c.args.level c.args.degrees) = IsLine-line_of c.args.level c.args.degrees c.requires.on_earth in
    rw (shifted c.args.level c.args.degrees c.ranges.degrees c.requires.on_earth) (IsLine_fits (line_of c.args.level c.args.degrees) is_line)

pub returns-clause-line : goal.returns-clause-line
returns-clause-line c =
    let is_line : IsLine (line_of c.args.level c.args.degrees) = IsLine-line_of c.args.level c.args.degrees c.requires.on_earth in
    let fits : SFits w16 (line_of c.args.level c.args.degrees) = IsLine_fits (line_of c.args.level c.args.degrees) is_line in
    rw (shifted c.args.level c.args.degrees c.ranges.degrees c.requires.on_earth) (to_z-of_z w16 (line_of c.args.level c.args.degrees) fits)

pub returns-clause-in_range : goal.returns-clause-in_range
returns-clause-in_range c =
    let is_line : IsLine (line_of c.args.level c.args.degrees) = IsLine-line_of c.args.level c.args.degrees c.requires.on_earth in
    let fits : SFits w16 (line_of c.args.level c.args.degrees) = IsLine_fits (line_of c.args.level c.args.degrees) is_line in
    rw (shifted c.args.level c.args.degrees c.ranges.degrees c.requires.on_earth, to_z-of_z w16 (line_of c.args.level c.args.degrees) fits) is_line
