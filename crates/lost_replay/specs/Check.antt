-- What a check of a stream of lines gives, up to its end or to a fault. (Own.)
use Rattle.std.specs.Prelude.{◌≡◌, ◌≢◌, ◌<◌, ◌≤◌, ◌⊎◌, ℕ, ◌+◌, Bool, false, List, [], ◌++◌, take, length, Option, Some, IfSome, Result, IfOk, IfErr, IsErrOf}
use Rattle.std.specs.Io.KnownBytes.{Appends, Consumes}
use Rattle.lost_spec.specs.Text.{Text}
use Rattle.lost_spec.specs.Moment.{Instant}
use Rattle.lost_lines.specs.declared.counts.Counts.{Counts}
use Rattle.lost_lines.specs.declared.fault.ServeError.{ServeError}
use Rattle.lost_lines.specs.declared.fault.ServeError.TheVariants.{Read, TurnsSpent, Memory}
use Rattle.lost_lines.specs.declared.turns.Turns.{Turns}
use Rattle.lost_lines.specs.Cutting.{lines_of, ended_lines}
use Rattle.lost_lines.specs.Gate.{LetThrough}
use Rattle.lost_lines.specs.Run.{Reply, Run, text_of}
use Rattle.lost_lines.specs.Stream.{AppendsFront, StandsPast, IsNext}
use Rattle.lost_lines.specs.Outcome.{Passage}
use Rattle.lost_json.specs.Stream.{Lists}
use Rattle.lost_json.specs.Step.{Step}
use Rattle.lost_replay.specs.Replay.{replay_terms, no_edits, IsReplayed}
use Rattle.lost_replay.specs.declared.findings.Findings.{Findings}
use Rattle.lost_replay.specs.declared.outcome.Outcome.{Outcome}
use Rattle.lost_replay.specs.Outcomes.{AreOutcomes}
use Rattle.lost_replay.specs.Said.{AreSaid}
use Rattle.lost_replay.specs.Tally.{AreFindings}

-- a replay of lines by the server of this name at an instant, its replies to them, the outcomes that these are, and what is said of the lines by those; the gate let each line through
pub record IsJudged (says : ℕ → Bool → Type 0) (name : Text) (t : Instant) (lines : List Text) (said : Text) : Type 0 where
  pub replies : List Reply
  pub end : Lists
  pub run : Run (Step (replay_terms name t)) no_edits lines replies end
  pub outcomes : List Outcome
  pub are : AreOutcomes lines replies outcomes
  pub are_said : AreSaid 0 outcomes said
  pub let_through : LetThrough says (length lines)

-- the whole stream was checked: its replies are the text that a replay of it writes, and what is said of its lines by their outcomes was written, and nothing else
pub record IsChecked (says : ℕ → Bool → Type 0) (name : Text) (t : Instant) (unread before after : Option Text) (counts : Counts) (findings : Findings) : Type 0 where
  pub lines : List Text
  pub said : Text
  pub judged : IsJudged says name t lines said
  pub replay_counts : Counts
  pub replayed : IsReplayed name t unread (Some []) (Some (text_of judged.replies)) replay_counts
  pub read : IfSome unread (λ bytes. lines ≡ lines_of bytes)
  pub written : Appends before after said
  pub counted : counts.lines ≡ length lines
  pub found : AreFindings findings judged.outcomes judged.end

-- a fault came: what was written is a front of what is said of a front of the lines
pub record IsCheckedInPart (says : ℕ → Bool → Type 0) (name : Text) (t : Instant) (unread before after : Option Text) : Type 0 where
  pub lines : List Text
  pub said : Text
  pub judged : IsJudged says name t lines said
  pub read : IfSome unread (λ bytes. (rest : List Text) × (lines_of bytes ≡ lines ++ rest))
  pub written : AppendsFront before after said

-- a fault came, and what is said of all lines whose byte 10 was read, up to a number of lines, was written whole; what was found is what these lines are
pub record IsCheckedSoFar (says : ℕ → Bool → Type 0) (name : Text) (t : Instant) (most : ℕ) (unread left before after : Option Text) (findings : Findings) : Type 0 where
  pub lines : List Text
  pub said : Text
  pub judged : IsJudged says name t lines said
  pub consumed : Text
  pub read : Consumes unread left consumed
  pub ended : lines ≡ take most (ended_lines consumed)
  pub written : Appends before after said
  pub found : AreFindings findings judged.outcomes judged.end

-- the turns are spent: a byte stands past the last line that may be checked, or as many reads as may be were made and none met the end; what is said of the lines by then was written whole
pub record IsCheckSpent (says : ℕ → Bool → Type 0) (name : Text) (t : Instant) (turns : Turns) (unread left before after : Option Text) (reads : ℕ) (has_ended : Bool) (findings : Findings) : Type 0 where
  pub so_far : IsCheckedSoFar says name t turns.lines unread left before after findings
  pub spent : StandsPast turns.lines so_far.lines so_far.consumed ⊎ ((reads ≡ turns.reads) × (has_ended ≡ false))

-- the gate refused a line: what is said of all lines before it was written whole, and nothing else; what was found is what those lines are
pub record IsCheckHeldBack (says : ℕ → Bool → Type 0) (name : Text) (t : Instant) (most : ℕ) (unread left before after : Option Text) (has_ended : Bool) (findings : Findings) : Type 0 where
  pub lines : List Text
  pub line : Text
  pub said : Text
  pub judged : IsJudged says name t lines said
  pub consumed : Text
  pub refused : says (length lines + 1) false
  pub within : length lines < most
  pub read : Consumes unread left consumed
  pub next : IsNext lines line consumed has_ended
  pub written : Appends before after said
  pub found : AreFindings findings judged.outcomes judged.end

-- what a check gives, whichever result it has: at Ok the whole stream was checked, in at most as many lines as the turns allow; at each fault of the stream a front of it;
-- at `Read` and `TurnsSpent` all lines whose byte 10 was read, up to as many as the turns allow or before one that the gate refused
pub record IsCheckOutcome (says : ℕ → Bool → Type 0) (name : Text) (t : Instant) (turns : Turns) (p : Passage) (findings : Findings) (result : Result Counts ServeError) : Type 0 where
  pub checked : IfOk result (λ counts. IsChecked says name t p.unread p.before p.after counts findings)
  pub within : IfOk result (λ counts. counts.lines ≤ turns.lines)
  pub in_part : IfErr result (λ e. e ≢ Memory → IsCheckedInPart says name t p.unread p.before p.after)
  pub so_far : IsErrOf result Read → IsCheckedSoFar says name t turns.lines p.unread p.left p.before p.after findings
  pub spent : IsErrOf result TurnsSpent →
      IsCheckSpent says name t turns p.unread p.left p.before p.after p.reads p.ended findings ⊎ IsCheckHeldBack says name t turns.lines p.unread p.left p.before p.after p.ended findings
