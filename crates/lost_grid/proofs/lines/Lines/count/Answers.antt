use Rattle.std.proofs.Common.{◌≡◌, length, pos, ◌-ℤ◌, arith}
use Rattle.std.proofs.lemmas.Int.{ints}
use Rattle.lost_grid.specs.Lines.{up_to}
use Rattle.lost_grid.specs.Runs.{length-up_to}
use Rattle.lost_grid.proofs.lines.Lines.count.Goals as goal

pub returns-clause-count : goal.returns-clause-count
returns-clause-count c =
    let lines = c.args.self in
    let count : pos (length (up_to lines.first lines.end)) ≡ lines.end -ℤ lines.first = length-up_to lines.first lines.end c.requires.order in
    omega (arith, ints)
