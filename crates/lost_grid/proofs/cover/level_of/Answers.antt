use Rattle.std.proofs.Common.{sym, ◌∙◌}
use Rattle.lost_grid.specs.Grid.{are_few}
use Rattle.lost_grid.proofs.Levels.{least_passes, last_left}
use Rattle.lost_grid.proofs.cover.level_of.Goals as goal

pub returns-then-are_few-clause-level : goal.returns-then-are_few-clause-level
returns-then-are_few-clause-level c =
    least_passes (are_few c.args.bounds.now) c.loop-level.level c.loop-level-test.true c.loop-level.invariant (sym c.are_few.ensures ∙ c.if-are_few.true)

pub returns-clause-level : goal.returns-clause-level
returns-clause-level c = last_left (are_few c.args.bounds.now) c.loop-level.level c.loop-level-test.false c.loop-level.invariant
