-- A run of what checks lines is a run of what answers them, with what is said of each and what is counted.
use Rattle.std.proofs.Common.{◌≡◌, ℕ, suc, ◌+◌, ◌-◌, ◌^◌, min, Bool, true, false, cond, List, [], ◌∷◌, length, refl, ap, subst, ◌∙◌, arith}
use Rattle.lost_spec.specs.Text.{Text}
use Rattle.lost_lines.specs.Run.{Cut, Whole, TooLong, Unread, Reply, IsCut, Run, text_of}
use Rattle.lost_json.proofs.ListLemmas.{count_by_front}
use Rattle.lost_replay.specs.Replayer.{Replays, outcome_of}
use Rattle.lost_replay.specs.Outcome.{IsOutcomeOf, IsOutcomeAt}
use Rattle.lost_replay.specs.declared.outcome.Outcome.{Outcome}
use Rattle.lost_replay.specs.declared.tally.Tally.{Tally}
use Rattle.lost_replay.specs.declared.checker.Checker.{Checker}
use Rattle.lost_replay.specs.Outcomes.{is_refused, is_bad_request, is_unjudged, AreOutcomes}
use Rattle.lost_replay.specs.Said.{line_number, AreSaid}
use Rattle.lost_replay.specs.Tally.{Counted, one_more, count_of}
use Rattle.lost_replay.specs.Checker.{Checks}

-- how often something was counted, with no greatest number
pub record Sums : Type 0 where
  pub lines : ℕ
  pub refused : ℕ
  pub bad_requests : ℕ
  pub unjudged : ℕ

-- the counts are those, but for the greatest number
pub record AreCapped (tally : Tally) (sums : Sums) : Type 0 where
  pub lines : tally.lines ≡ line_number sums.lines
  pub refused : tally.refused ≡ min sums.refused (2 ^ 64 - 1)
  pub bad_requests : tally.bad_requests ≡ min sums.bad_requests (2 ^ 64 - 1)
  pub unjudged : tally.unjudged ≡ min sums.unjudged (2 ^ 64 - 1)

-- behind a line with this outcome, and behind lines with these
abbrev pub sums_after : Sums → Outcome → Sums
sums_after sums outcome =
    record {
      lines = sums.lines + 1;
      refused = sums.refused + cond (is_refused outcome) 1 0;
      bad_requests = sums.bad_requests + cond (is_bad_request outcome) 1 0;
      unjudged = sums.unjudged + cond (is_unjudged outcome) 1 0;
    }

abbrev pub sums_behind : Sums → List Outcome → Sums
sums_behind sums outcomes =
    record {
      lines = sums.lines + length outcomes;
      refused = sums.refused + count_of is_refused outcomes;
      bad_requests = sums.bad_requests + count_of is_bad_request outcomes;
      unjudged = sums.unjudged + count_of is_unjudged outcomes;
    }

capped_more : (c x most : ℕ) → min (min c most + x) most ≡ min (c + x) most
capped_more c x most = omega arith

line_capped : (old new c : ℕ) → old ≡ min c (2 ^ 64 - 1) → new ≡ min (old + 1) (2 ^ 64 - 1) → new ≡ min (c + 1) (2 ^ 64 - 1)
line_capped old new c was is = is ∙ ap (λ n. min (n + 1) (2 ^ 64 - 1)) was ∙ capped_more c 1 (2 ^ 64 - 1)

one_capped : (old new c : ℕ) (is : Bool) → old ≡ min c (2 ^ 64 - 1) → new ≡ one_more old is → new ≡ min (c + cond is 1 0) (2 ^ 64 - 1)
one_capped old new c true was counted = line_capped old new c was counted
one_capped old new c false was counted = counted ∙ was ∙ ap (λ n. min n (2 ^ 64 - 1)) (omega arith)

counted_capped : (old new : Tally) (sums : Sums) (outcome : Outcome) → AreCapped old sums → Counted old new outcome → AreCapped new (sums_after sums outcome)
counted_capped old new sums outcome are counted =
    record {
      lines = line_capped old.lines new.lines sums.lines are.lines counted.lines;
      refused = one_capped old.refused new.refused sums.refused (is_refused outcome) are.refused counted.refused;
      bad_requests = one_capped old.bad_requests new.bad_requests sums.bad_requests (is_bad_request outcome) are.bad_requests counted.bad_requests;
      unjudged = one_capped old.unjudged new.unjudged sums.unjudged (is_unjudged outcome) are.unjudged counted.unjudged;
    }

-- a count of one outcome and then of others
count_front : (is : Outcome → Bool) (c : ℕ) (outcome : Outcome) (outcomes : List Outcome) → (c + cond (is outcome) 1 0) + count_of is outcomes ≡ c + count_of is (outcome ∷ outcomes)
count_front is c outcome outcomes =
    let front = count_by_front is outcome outcomes in
    let one : count_of is (outcome ∷ []) ≡ 0 + cond (is outcome) 1 0 = refl in
    omega (arith, front, one)

lines_front : (c : ℕ) (outcome : Outcome) (outcomes : List Outcome) → (c + 1) + length outcomes ≡ c + length (outcome ∷ outcomes)
lines_front c outcome outcomes = omega arith

capped_behind : (new : Tally) (sums : Sums) (outcome : Outcome) (outcomes : List Outcome) → AreCapped new (sums_behind (sums_after sums outcome) outcomes) → AreCapped new (sums_behind sums (outcome ∷ outcomes))
capped_behind new sums outcome outcomes are =
    record {
      lines = are.lines ∙ ap line_number (lines_front sums.lines outcome outcomes);
      refused = are.refused ∙ ap (λ n. min n (2 ^ 64 - 1)) (count_front is_refused sums.refused outcome outcomes);
      bad_requests = are.bad_requests ∙ ap (λ n. min n (2 ^ 64 - 1)) (count_front is_bad_request sums.bad_requests outcome outcomes);
      unjudged = are.unjudged ∙ ap (λ n. min n (2 ^ 64 - 1)) (count_front is_unjudged sums.unjudged outcome outcomes);
    }

capped_none : (tally : Tally) (sums : Sums) → AreCapped tally sums → AreCapped tally (sums_behind sums [])
capped_none tally sums are =
    record {
      lines = are.lines ∙ ap line_number (omega arith);
      refused = are.refused ∙ ap (λ n. min n (2 ^ 64 - 1)) (omega arith);
      bad_requests = are.bad_requests ∙ ap (λ n. min n (2 ^ 64 - 1)) (omega arith);
      unjudged = are.unjudged ∙ ap (λ n. min n (2 ^ 64 - 1)) (omega arith);
    }

-- the outcome of a line as it was cut is that of the line
of_cut : (outcome : Outcome) (line : Text) (cut : Cut) (reply : Text) → IsCut line cut → IsOutcomeAt outcome cut reply → IsOutcomeOf outcome line reply
of_cut outcome line (Whole kept) reply is at = subst (λ l. IsOutcomeOf outcome l reply) is.0 at
of_cut outcome line TooLong reply is at = rw at.0 at.1
of_cut outcome line Unread reply is at = rw at.0 at.1

-- what answers the lines gave these replies with these outcomes, this was said of the lines, and so much was counted
pub record IsCheckedRun (sums : Sums) (old : Checker) (lines : List Text) (said : List Reply) (new : Checker) : Type 0 where
  pub replies : List Reply
  pub run : Run Replays old.replayer lines replies new.replayer
  pub outcomes : List Outcome
  pub are : AreOutcomes lines replies outcomes
  pub says : AreSaid sums.lines outcomes (text_of said)
  pub capped : AreCapped new.tally (sums_behind sums outcomes)
  pub lengths : length outcomes ≡ length lines

pub checked_run : (sums : Sums) (lines : List Text) (said : List Reply) (old new : Checker) → AreCapped old.tally sums → Run Checks old lines said new → IsCheckedRun sums old lines said new
checked_run sums [] [] old new are run =
    record {
      replies = [];
      run = ap (λ (c : Checker). c.replayer) run;
      outcomes = [];
      are = tt;
      says = refl;
      capped = capped_none new.tally sums (rw run are);
      lengths = refl;
    }
checked_run sums [] (out ∷ said) old new are run = absurd run
checked_run sums (line ∷ lines) [] old new are run = absurd run
checked_run sums (line ∷ lines) (out ∷ said) old new are (cut, next, is_cut, checks, rest) =
    let outcome = outcome_of next.replayer in
    let one = counted_capped old.tally next.tally sums outcome are checks.counted in
    let more = checked_run (sums_after sums outcome) lines said next new one rest in
    record {
      replies = checks.answer ∷ more.replies;
      run = (cut, next.replayer, is_cut, checks.replays, more.run);
      outcomes = outcome ∷ more.outcomes;
      are = (of_cut outcome line cut checks.answer.text is_cut checks.replays.outcome, more.are);
      says = (out.text, text_of said, refl, rw one.lines at checks.says, more.says);
      capped = capped_behind new.tally sums outcome more.outcomes more.capped;
      lengths = ap suc more.lengths;
    }
