-- What a replay gives: the stream of lines of one thread, which begins with no edits. (Own.)
use Rattle.std.specs.Prelude.{◌≢◌, ◌≤◌, ℕ, Bool, true, [], Option, Result, IfOk, IfErr, IsErrOf}
use Rattle.lost_spec.specs.Text.{Text}
use Rattle.lost_spec.specs.Moment.{Instant}
use Rattle.lost_book.specs.Bounds.{widest}
use Rattle.lost_json.specs.Line.{line_reply}
use Rattle.lost_lines.specs.declared.counts.Counts.{Counts}
use Rattle.lost_lines.specs.declared.fault.ServeError.{ServeError}
use Rattle.lost_lines.specs.declared.fault.ServeError.TheVariants.{Read, TurnsSpent, Memory}
use Rattle.lost_lines.specs.declared.turns.Turns.{Turns}
use Rattle.lost_lines.specs.Outcome.{Passage}
use Rattle.lost_json.specs.Stream.{Terms, Lists, internal_error, bad_request}
use Rattle.lost_json.specs.Outcome.{IsStreamed, IsStreamedInPart, IsStreamedSoFar, IsStreamSpent}

-- a replay by the server of this name at an instant: the books have the widest limits, want of memory is `internalError`
-- and counted, a line over the limit is `badRequest`, and a line that is no desk line gets the line that answers it
abbrev pub replay_terms : Text → Instant → Terms
replay_terms name t = record { limits = widest; short = internal_error; counts_short = true; long = bad_request; other = λ b text. line_reply b name t text }

-- nothing is accepted and nothing is published
abbrev pub no_edits : Lists
no_edits = record { accepted = []; published = [] }

-- the whole stream was replayed
pub record IsReplayed (name : Text) (t : Instant) (unread before after : Option Text) (counts : Counts) : Type 0 where
  pub end : Lists
  pub streamed : IsStreamed (replay_terms name t) no_edits end unread before after counts

-- a fault came: what was written is a front of the text of a front of the lines
pub record IsReplayedInPart (name : Text) (t : Instant) (unread before after : Option Text) : Type 0 where
  pub end : Lists
  pub streamed : IsStreamedInPart (replay_terms name t) no_edits end unread before after

-- a fault came, and the text of all lines whose byte 10 was read, up to a number of lines, was written whole
pub record IsReplayedSoFar (name : Text) (t : Instant) (most : ℕ) (unread left before after : Option Text) : Type 0 where
  pub end : Lists
  pub streamed : IsStreamedSoFar (replay_terms name t) no_edits end most unread left before after

-- the turns are spent, and what was answered by then was written whole
pub record IsReplaySpent (name : Text) (t : Instant) (turns : Turns) (unread left before after : Option Text) (reads : ℕ) (has_ended : Bool) : Type 0 where
  pub end : Lists
  pub streamed : IsStreamSpent (replay_terms name t) no_edits end turns unread left before after reads has_ended

-- what a replay gives, whichever result it has: at Ok the whole stream was replayed, in at most as many lines as the turns allow; at each fault of the stream a front of it;
-- at `Read` and `TurnsSpent` all lines whose byte 10 was read, up to as many as the turns allow
pub record IsReplayOutcome (name : Text) (t : Instant) (turns : Turns) (p : Passage) (result : Result Counts ServeError) : Type 0 where
  pub replayed : IfOk result (λ counts. IsReplayed name t p.unread p.before p.after counts)
  pub within : IfOk result (λ counts. counts.lines ≤ turns.lines)
  pub in_part : IfErr result (λ e. e ≢ Memory → IsReplayedInPart name t p.unread p.before p.after)
  pub so_far : IsErrOf result Read → IsReplayedSoFar name t turns.lines p.unread p.left p.before p.after
  pub spent : IsErrOf result TurnsSpent → IsReplaySpent name t turns p.unread p.left p.before p.after p.reads p.ended
