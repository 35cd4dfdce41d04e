use Rattle.std.proofs.Common.{◌≡◌, length, get_or, ◌-◌, ◌<◌, ◌≤◌}
use Rattle.lost_tables.proofs.cell.end_of.Given as goal

abbrev pub invariant-loop-end : goal.invariant-loop-end
invariant-loop-end l = record {
  some : 0 < l.end;
  within : l.end ≤ length l.numbers;
  last : get_or l.numbers (l.end - 1) 0 ≡ l.number;
}

abbrev pub decreases-loop-end : goal.decreases-loop-end
decreases-loop-end l = length l.numbers - l.end
