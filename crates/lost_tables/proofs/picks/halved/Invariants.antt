use Rattle.std.proofs.Common.{◌-◌}
use Rattle.lost_tables.specs.Picks.{AreBelow, AreAbove}
use Rattle.lost_tables.proofs.picks.halved.Given as goal

abbrev pub invariant-loop-low : goal.invariant-loop-low
invariant-loop-low l =
    (AreBelow l.number l.rows.numbers l.start → AreBelow l.number l.rows.numbers l.low)
    × (AreAbove l.number l.rows.numbers l.end → AreAbove l.number l.rows.numbers l.high)

abbrev pub decreases-loop-low : goal.decreases-loop-low
decreases-loop-low l = l.high - l.low
