use Rattle.std.proofs.Common.{◌≡◌, ℕ, ◌<◌, false}
use Rattle.lost_grid.specs.Grid.{are_few}
use Rattle.lost_grid.proofs.cover.level_of.Given as goal

abbrev pub invariant-loop-level : goal.invariant-loop-level
invariant-loop-level l = (k : ℕ) → k < l.level → are_few l.bounds k ≡ false
