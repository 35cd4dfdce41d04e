use Rattle.std.proofs.Common.{ℕ, ◌<◌, ◌≤◌, length, get_or}
use Rattle.std.specs.List.Sorted.{IsNonDecreasing}
use Rattle.lost_tables.specs.Lists.{KeepsOthersIn}
use Rattle.lost_tables.proofs.cell.pop_all.Given as goal

abbrev pub invariant-loop-number : goal.invariant-loop-number
invariant-loop-number l = record {
  others : KeepsOthersIn l.number l.fn.numbers.items l.numbers.items;
  rising : IsNonDecreasing l.numbers.items;
  below : (k : ℕ) → k < length l.numbers.items → get_or l.numbers.items k 0 ≤ l.number;
}

abbrev pub decreases-loop-number : goal.decreases-loop-number
decreases-loop-number l = length l.numbers.items
