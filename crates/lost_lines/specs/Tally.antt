-- Counts that grow line by line.
use Rattle.std.specs.Prelude.{◌≡◌, ℕ, ◌+◌, Bool, if◌then◌else◌}
use Rattle.lost_lines.specs.declared.counts.Counts.{Counts}
use Rattle.lost_lines.specs.declared.tally.Tally.{Tally}

-- what was counted
abbrev pub counts_of : Tally → Counts
counts_of t = t.counts

-- how many lines may be counted
abbrev pub most_of : Tally → ℕ
most_of t = t.most

-- one line more was counted
pub record Counted (old new : Counts) (is_long is_internal_error : Bool) : Type 0 where
  pub lines : new.lines ≡ old.lines + 1
  pub long_lines : new.long_lines ≡ old.long_lines + (if is_long then 1 else 0)
  pub memory : new.memory ≡ old.memory + (if is_internal_error then 1 else 0)
  pub faults : new.faults ≡ old.faults
