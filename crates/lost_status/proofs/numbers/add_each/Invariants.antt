use Rattle.std.proofs.Common.{◌≡◌, ℕ, ◌<◌, ◌≤◌, get_or, length}
use Rattle.lost_status.specs.Figures.{plus}
use Rattle.lost_status.proofs.numbers.add_each.Given as goal

-- the counts before the place have been added to, and those from it on are as they were
abbrev pub invariant-loop-place : goal.invariant-loop-place
invariant-loop-place l = record {
  added : (k : ℕ) → k < l.place → get_or l.counts k 0 ≡ plus (get_or l.initial.counts k 0) (get_or l.more k 0);
  left : (k : ℕ) → l.place ≤ k → get_or l.counts k 0 ≡ get_or l.initial.counts k 0;
}
