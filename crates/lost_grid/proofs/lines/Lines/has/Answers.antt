-- It lies between the first and the end.
use Rattle.std.proofs.Common.{◌≤ℤ◌, ◌<ℤ◌, sym, arith}
use Rattle.std.proofs.lemmas.Int.{ints}
use Rattle.lost_grid.proofs.Positions.{has_number, lacks_below, lacks_above}
use Rattle.lost_grid.proofs.lines.Lines.has.Goals as goal

pub returns-then-line-self : goal.returns-then-line-self
returns-then-line-self c =
    let below : c.args.line <ℤ c.args.self.first = grind (arith, ints) in
    sym (lacks_below c.args.self.first c.args.self.end c.args.line c.requires.order below)

pub returns-then-line-self-2 : goal.returns-then-line-self-2
returns-then-line-self-2 c =
    let above : c.args.self.end ≤ℤ c.args.line = grind (arith, ints) in
    sym (lacks_above c.args.self.first c.args.self.end c.args.line c.requires.order above)

pub returns : goal.returns
returns c =
    let from : c.args.self.first ≤ℤ c.args.line = grind (arith, ints) in
    let before : c.args.line <ℤ c.args.self.end = grind (arith, ints) in
    sym (has_number c.args.self.first c.args.self.end c.args.line from before)
