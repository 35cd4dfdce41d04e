-- The first one with the position added.
use Rattle.std.proofs.Common.{length, ◌<◌, arith}
use Rattle.lost_grid.specs.Stretch.{numbers}
use Rattle.lost_grid.proofs.Positions.{line_at}
use Rattle.lost_grid.proofs.lines.Lines.at.Goals as goal

pub returns-clause-line : goal.returns-clause-line
returns-clause-line c =
    let within : c.args.position < length (numbers c.args.self) = omega (arith, c.count.ensures.count, c.if-position-count.false) in
    (line_at c.args.self.first c.args.self.end c.args.position c.requires.order c.requires.low c.requires.high within).0

pub returns-clause-in_range : goal.returns-clause-in_range
returns-clause-in_range c =
    let within : c.args.position < length (numbers c.args.self) = omega (arith, c.count.ensures.count, c.if-position-count.false) in
    (line_at c.args.self.first c.args.self.end c.args.position c.requires.order c.requires.low c.requires.high within).1
