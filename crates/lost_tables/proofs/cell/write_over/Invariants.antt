use Rattle.std.proofs.Common.{ℕ, ◌<◌, ◌≤◌, length, get_or}
use Rattle.std.specs.List.Sorted.{IsNonDecreasing}
use Rattle.lost_tables.specs.Lists.{KeepsOthersIn}
use Rattle.lost_tables.proofs.cell.write_over.Given as goal

abbrev pub invariant-loop-start : goal.invariant-loop-start
invariant-loop-start l = record {
  within : l.start ≤ length l.numbers;
  others : KeepsOthersIn l.number l.fn.numbers l.numbers;
  rising : IsNonDecreasing l.numbers;
  below : (k : ℕ) → k < l.start → get_or l.numbers k 0 ≤ l.number;
  above : (k : ℕ) → l.start ≤ k → k < length l.numbers → l.other ≤ get_or l.numbers k 0;
}

abbrev pub decreases-loop-start : goal.decreases-loop-start
decreases-loop-start l = l.start
