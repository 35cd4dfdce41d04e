use Rattle.std.proofs.Common.{◌≡◌, arith}
use Rattle.std.proofs.lemmas.Int.{ints, to_z-of_z}
use Rattle.lost_grid.specs.Lines.{line_of}
use Rattle.lost_grid.specs.LineOrder.{line_of_rises}
use Rattle.lost_grid.proofs.lines.Lines.between.Goals as goal

pub returns-clause-in_range : goal.returns-clause-in_range
returns-clause-in_range c =
    let low_fits = c.ranges.low in
    let high_fits = c.ranges.high in
    let first : c.line_of.result ≡ line_of c.args.level c.args.low = simp to_z-of_z at c.line_of.ensures.line in
    let last : c.line_of-2.result ≡ line_of c.args.level c.args.high = simp to_z-of_z at c.line_of-2.ensures.line in
    let rises = line_of_rises c.args.level c.args.low c.args.high c.requires.order in
    record { low = omega (arith, ints); order = omega (arith, ints); high = omega (arith, ints) }
