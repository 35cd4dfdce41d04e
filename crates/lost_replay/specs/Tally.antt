-- What is counted of lines, by the outcomes of a replay of them. (Own.)
use Rattle.std.specs.Prelude.{◌≡◌, ℕ, ◌+◌, ◌-◌, ◌^◌, ◌==◌, ◌&&◌, min, Bool, cond, List, length}
use Rattle.std.specs.List.{count_by}
use Rattle.lost_json.specs.Stream.{Lists}
use Rattle.lost_replay.specs.declared.outcome.Outcome.{Outcome}
use Rattle.lost_replay.specs.declared.tally.Tally.{Tally}
use Rattle.lost_replay.specs.declared.findings.Findings.{Findings}
use Rattle.lost_replay.specs.Outcomes.{is_refused, is_bad_request, is_unjudged}

-- one more where it is so; a count stays at its greatest value
abbrev pub one_more : ℕ → Bool → ℕ
one_more count is = cond is (min (count + 1) (2 ^ 64 - 1)) count

-- one line more was counted
pub record Counted (old new : Tally) (outcome : Outcome) : Type 0 where
  pub lines : new.lines ≡ min (old.lines + 1) (2 ^ 64 - 1)
  pub refused : new.refused ≡ one_more old.refused (is_refused outcome)
  pub bad_requests : new.bad_requests ≡ one_more old.bad_requests (is_bad_request outcome)
  pub unjudged : new.unjudged ≡ one_more old.unjudged (is_unjudged outcome)

-- how many outcomes are of some kinds
abbrev pub count_of : (Outcome → Bool) → List Outcome → ℕ
count_of is outcomes = count_by is outcomes

-- what is found is what the outcomes say, and the edition is the number of edits that are published at their end
pub record AreFindings (findings : Findings) (outcomes : List Outcome) (end : Lists) : Type 0 where
  pub refused : findings.refused ≡ count_of is_refused outcomes
  pub bad_requests : findings.bad_requests ≡ count_of is_bad_request outcomes
  pub unjudged : findings.unjudged ≡ count_of is_unjudged outcomes
  pub edition : findings.edition ≡ length end.published

-- nothing was said of any line: none is refused, answered badRequest or left unjudged
abbrev pub finds_nothing : Findings → Bool
finds_nothing found = found.refused == 0 && found.bad_requests == 0 && found.unjudged == 0
