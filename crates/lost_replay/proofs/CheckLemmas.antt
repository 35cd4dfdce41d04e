-- A stream that is served by what checks lines is a check of a replay.
use Rattle.std.proofs.Common.{◌≡◌, ℕ, ◌+◌, ◌-◌, ◌^◌, ◌<◌, ◌≤◌, ◌⊎◌, inl, inr, min, Bool, List, [], take, length, Option, Some, IfSome, Result, Ok, Err, IfOk, IfErr, OnErr, refl, ap, sym, ◌∙◌, arith}
use Rattle.std.proofs.lemmas.List.{length-take}
use Rattle.std.proofs.lemmas.List.Sums.{count_by-le-length}
use Rattle.lost_spec.specs.Text.{Text}
use Rattle.lost_spec.specs.Moment.{Instant}
use Rattle.lost_lines.specs.declared.counts.Counts.{Counts}
use Rattle.lost_lines.specs.declared.fault.ServeError.{ServeError}
use Rattle.lost_lines.specs.declared.turns.Turns.{Turns}
use Rattle.lost_lines.specs.Outcome.{Passage, IsOutcome}
use Rattle.lost_lines.specs.Cutting.{lines_of, ended_lines}
use Rattle.lost_lines.specs.Gate.{LetThrough}
use Rattle.lost_lines.specs.Run.{Reply, Run, text_of, long_count, memory_count}
use Rattle.lost_lines.specs.Stream.{IsServed, IsCutOff, IsWholeSoFar, IsSpent, IsHeldBack}
use Rattle.lost_json.specs.Stream.{Lists}
use Rattle.lost_json.specs.Step.{Step}
use Rattle.lost_json.proofs.OutcomeLemmas.{streamed}
use Rattle.lost_replay.specs.Replay.{replay_terms, no_edits, IsReplayed}
use Rattle.lost_replay.specs.Books.{AreBooksOf}
use Rattle.lost_replay.specs.Replayer.{Begins, books_of}
use Rattle.lost_replay.proofs.ReplayLemmas.{from_none}
use Rattle.lost_replay.specs.declared.outcome.Outcome.{Outcome}
use Rattle.lost_replay.specs.declared.tally.Tally.{Tally}
use Rattle.lost_replay.specs.declared.checker.Checker.{Checker}
use Rattle.lost_replay.specs.declared.findings.Findings.{Findings}
use Rattle.lost_replay.specs.Outcomes.{is_refused, is_bad_request, is_unjudged}
use Rattle.lost_replay.specs.Tally.{count_of, AreFindings}
use Rattle.lost_replay.specs.Checker.{Checks}
use Rattle.lost_replay.specs.Check.{IsJudged, IsChecked, IsCheckedInPart, IsCheckedSoFar, IsCheckSpent, IsCheckHeldBack, IsCheckOutcome}
use Rattle.lost_replay.proofs.RunLemmas.{Sums, AreCapped, IsCheckedRun, checked_run}

-- nothing was counted
abbrev nothing : Sums
nothing = record { lines = 0; refused = 0; bad_requests = 0; unjudged = 0 }

-- so it is where counting begins
pub begin_capped : (tally : Tally) → tally ≡ record { lines = 0; refused = 0; bad_requests = 0; unjudged = 0 } → AreCapped tally (record { lines = 0; refused = 0; bad_requests = 0; unjudged = 0 })
begin_capped tally is = rw is (record { lines = refl; refused = refl; bad_requests = refl; unjudged = refl })

-- what a check has found at its end
pub record Finds (findings : Findings) (new : Checker) : Type 0 where
  pub refused : findings.refused ≡ new.tally.refused
  pub bad_requests : findings.bad_requests ≡ new.tally.bad_requests
  pub unjudged : findings.unjudged ≡ new.tally.unjudged
  pub edition : findings.edition ≡ (books_of new.replayer).published.edits

-- no cap is reached by a count of outcomes, of which there are no more than that
uncapped : (is : Outcome → Bool) (outcomes : List Outcome) (found counted : ℕ) → length outcomes ≤ 2 ^ 64 - 1 → found ≡ counted → counted ≡ min (0 + count_of is outcomes) (2 ^ 64 - 1) → found ≡ count_of is outcomes
uncapped is outcomes found counted few same capped =
    let less : count_of is outcomes ≤ length outcomes = count_by-le-length is outcomes in
    same ∙ capped ∙ capless (count_of is outcomes) (length outcomes) less few
  where
    capless : (n m : ℕ) → n ≤ m → m ≤ 2 ^ 64 - 1 → min (0 + n) (2 ^ 64 - 1) ≡ n
    capless n m less few = omega arith

-- a front of as many lines as a number of 64 bits, or fewer, has no more
few_taken : (lines others : List Text) (most : ℕ) → lines ≡ take most others → most ≤ 2 ^ 64 - 1 → length lines ≤ 2 ^ 64 - 1
few_taken lines others most is few = of_min (length lines) most (length others) (ap length is ∙ length-take most others) few
  where
    of_min : (n most m : ℕ) → n ≡ min most m → most ≤ 2 ^ 64 - 1 → n ≤ 2 ^ 64 - 1
    of_min n most m is few = omega arith

few_below : (n most : ℕ) → n < most → most ≤ 2 ^ 64 - 1 → n ≤ 2 ^ 64 - 1
few_below n most below few = omega arith

module _ (name : Text) (t : Instant) (says : ℕ → Bool → Type 0) (old new : Checker) (begins : Begins name t old.replayer) (fresh : AreCapped old.tally nothing) where
  checked_lines : (lines : List Text) (said : List Reply) → Run Checks old lines said new → IsCheckedRun nothing old lines said new
  checked_lines lines said run = checked_run nothing lines said old new fresh run

  judged : (lines : List Text) (said : List Reply) → LetThrough says (length lines) → Run Checks old lines said new → IsJudged says name t lines (text_of said)
  judged lines said lets run =
      let c = checked_lines lines said run in
      let r = from_none name t says old.replayer new.replayer begins.name_is begins.moment_is begins.books_are lines c.replies c.run in
      record { replies = c.replies; end = r.end; run = r.run; outcomes = c.outcomes; are = c.are; are_said = c.says; let_through = lets }

  -- what was found of lines whose number is one of 64 bits
  found : (lines : List Text) (said : List Reply) (findings : Findings) (end : Lists) (c : IsCheckedRun nothing old lines said new) → AreBooksOf end new.replayer.books → length lines ≤ 2 ^ 64 - 1 → Finds findings new → AreFindings findings c.outcomes end
  found lines said findings end c are few finds =
      let within : length c.outcomes ≤ 2 ^ 64 - 1 = rw c.lengths few in
      record {
        refused = uncapped is_refused c.outcomes findings.refused new.tally.refused within finds.refused c.capped.refused;
        bad_requests = uncapped is_bad_request c.outcomes findings.bad_requests new.tally.bad_requests within finds.bad_requests c.capped.bad_requests;
        unjudged = uncapped is_unjudged c.outcomes findings.unjudged new.tally.unjudged within finds.unjudged c.capped.unjudged;
        edition = finds.edition ∙ are.published_edits;
      }

  -- what was found of lines that were judged
  found_of : (lines : List Text) (said : List Reply) (findings : Findings) (lets : LetThrough says (length lines)) (run : Run Checks old lines said new) → length lines ≤ 2 ^ 64 - 1 → Finds findings new
      → AreFindings findings (judged lines said lets run).outcomes (judged lines said lets run).end
  unfolding judged
  found_of lines said findings lets run few finds =
      let c = checked_lines lines said run in
      let r = from_none name t says old.replayer new.replayer begins.name_is begins.moment_is begins.books_are lines c.replies c.run in
      found lines said findings r.end c r.are few finds

  -- the counts of a replay of the same lines
  abbrev counts_of_replay : List Text → List Reply → Counts
  counts_of_replay lines replies = record { lines = length lines; long_lines = long_count lines; memory = memory_count replies; faults = 0 }

  would_replay : (lines : List Text) (replies : List Reply) (end : Lists) (unread : Option Text) → Run (Step (replay_terms name t)) no_edits lines replies end → IfSome unread (λ bytes. lines ≡ lines_of bytes)
      → IsReplayed name t unread (Some []) (Some (text_of replies)) (counts_of_replay lines replies)
  would_replay lines replies end unread run read =
      record {
        end = end;
        streamed = streamed (replay_terms name t) no_edits end lines replies run unread (Some []) (Some (text_of replies)) (counts_of_replay lines replies) read refl
            (record { lines_answered = refl; long_lines = refl; memory = refl; faults = refl });
      }

  checked : (unread before after : Option Text) (counts : Counts) (findings : Findings) → counts.lines ≤ 2 ^ 64 - 1 → Finds findings new → IsServed says Checks old new unread before after counts → IsChecked says name t unread before after counts findings
  checked unread before after counts findings few finds s =
      let c = checked_lines s.lines s.replies s.run in
      let r = from_none name t says old.replayer new.replayer begins.name_is begins.moment_is begins.books_are s.lines c.replies c.run in
      let within : length s.lines ≤ 2 ^ 64 - 1 = rw (sym s.counted.lines_answered) few in
      record {
        lines = s.lines;
        said = text_of s.replies;
        judged = record { replies = c.replies; end = r.end; run = r.run; outcomes = c.outcomes; are = c.are; are_said = c.says; let_through = s.let_through };
        replay_counts = counts_of_replay s.lines c.replies;
        replayed = would_replay s.lines c.replies r.end unread r.run s.read;
        read = s.read;
        written = s.written;
        counted = s.counted.lines_answered;
        found = found s.lines s.replies findings r.end c r.are within finds;
      }

  checked_in_part : (unread before after : Option Text) → IsCutOff says Checks old new unread before after → IsCheckedInPart says name t unread before after
  checked_in_part unread before after s = record { lines = s.lines; said = text_of s.replies; judged = judged s.lines s.replies s.let_through s.run; read = s.read; written = s.written }

  module _ (findings : Findings) (finds : Finds findings new) (most : ℕ) (few : most ≤ 2 ^ 64 - 1) (unread left before after : Option Text) where
    checked_so_far : IsWholeSoFar says Checks old new most unread left before after → IsCheckedSoFar says name t most unread left before after findings
    checked_so_far s =
        let within : length s.lines ≤ 2 ^ 64 - 1 = few_taken s.lines (ended_lines s.consumed) most s.ended few in
        record { lines = s.lines; said = text_of s.replies; judged = judged s.lines s.replies s.let_through s.run; consumed = s.consumed; read = s.read; ended = s.ended; written = s.written; found = found_of s.lines s.replies findings s.let_through s.run within finds }

    checked_held : (has_ended : Bool) → IsHeldBack says Checks old new most unread left before after has_ended → IsCheckHeldBack says name t most unread left before after has_ended findings
    checked_held has_ended s =
        let within : length s.lines ≤ 2 ^ 64 - 1 = few_below (length s.lines) most s.within few in
        record { lines = s.lines; line = s.line; said = text_of s.replies; judged = judged s.lines s.replies s.let_through s.run; consumed = s.consumed; refused = s.refused; within = s.within; read = s.read; next = s.next; written = s.written; found = found_of s.lines s.replies findings s.let_through s.run within finds }

  -- the turns are spent, or the gate refused a line
  checked_spent : (findings : Findings) → Finds findings new → (turns : Turns) → turns.lines ≤ 2 ^ 64 - 1 → (unread left before after : Option Text) (reads : ℕ) (has_ended : Bool)
      → IsSpent says Checks old new turns unread left before after reads has_ended ⊎ IsHeldBack says Checks old new turns.lines unread left before after has_ended
      → IsCheckSpent says name t turns unread left before after reads has_ended findings ⊎ IsCheckHeldBack says name t turns.lines unread left before after has_ended findings
  unfolding checked_so_far
  checked_spent findings finds turns few unread left before after reads has_ended (inl s) =
      inl (record { so_far = checked_so_far findings finds turns.lines few unread left before after s.whole; spent = s.spent })
  checked_spent findings finds turns few unread left before after reads has_ended (inr s) = inr (checked_held findings finds turns.lines few unread left before after has_ended s)

  -- as many lines as the turns allow are a number of 64 bits
  within_most : (n most : ℕ) → n ≤ most → most ≤ 2 ^ 64 - 1 → n ≤ 2 ^ 64 - 1
  within_most n most within few = omega arith

  -- two facts of what an outcome has
  of_both : {T E : Type 0} (r : Result T E) (P Q R : T → Type 0) → ((x : T) → P x → Q x → R x) → IfOk r P → IfOk r Q → IfOk r R
  of_both (Ok x) P Q R follows p q = follows x p q
  of_both (Err e) P Q R follows p q = tt

  -- what a fault leaves, whichever it is
  of_fault : {T E : Type 0} (r : Result T E) (P : Type 0) (Q : E → Type 0) → ((e : E) → P → Q e) → OnErr r P → IfErr r Q
  of_fault (Ok x) P Q follows left = tt
  of_fault (Err e) P Q follows left = follows e left

  pub check_outcome : (turns : Turns) (p : Passage) (findings : Findings) (result : Result Counts ServeError) → turns.lines ≤ 2 ^ 64 - 1 → Finds findings new → IsOutcome says Checks old new turns p result → IsCheckOutcome says name t turns p findings result
  check_outcome turns p findings result few finds o = record {
    checked = of_both result _ _ _ (λ counts within s. checked p.unread p.before p.after counts findings (within_most counts.lines turns.lines within few) finds s) o.within o.served;
    within = o.within;
    in_part = of_fault result _ _ (λ e s other. checked_in_part p.unread p.before p.after s) o.cut_off;
    so_far = λ is. checked_so_far findings finds turns.lines few p.unread p.left p.before p.after (o.whole is);
    spent = λ is. checked_spent findings finds turns few p.unread p.left p.before p.after p.reads p.ended (o.spent is);
  }
