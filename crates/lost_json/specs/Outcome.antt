-- What serving a stream of desk lines and other lines gives, counted afresh, up to its end or to a fault. (Own.)
use Rattle.std.specs.Prelude.{◌≡◌, ◌≤◌, ◌⊎◌, ℕ, Bool, false, List, ◌++◌, map, take, length, Option, IfSome, Result, IfOk, OnErr, IsErrOf}
use Rattle.std.specs.List.{count_by}
use Rattle.std.specs.Io.KnownBytes.{Appends, Consumes}
use Rattle.lost_spec.specs.Text.{Text}
use Rattle.lost_lines.specs.declared.counts.Counts.{Counts}
use Rattle.lost_lines.specs.declared.fault.ServeError.{ServeError}
use Rattle.lost_lines.specs.declared.fault.ServeError.TheVariants.{Read, TurnsSpent}
use Rattle.lost_lines.specs.declared.turns.Turns.{Turns}
use Rattle.lost_lines.specs.Cutting.{lines_of, ended_lines}
use Rattle.lost_lines.specs.Run.{long_count}
use Rattle.lost_lines.specs.Outcome.{Passage}
use Rattle.lost_lines.specs.Stream.{AppendsFront, StandsPast}
use Rattle.lost_json.specs.Stream.{Terms, Lists, Line, AreMarks, lists_at, stream_text, is_short}

-- the lines without their marks
abbrev pub texts_of_lines : List Line → List Text
texts_of_lines lines = map (λ line. line.text) lines

-- counts are those of the lines: all, those over the limit, and those counted as answered `internalError`
pub record AreCountsOf (terms : Terms) (counts : Counts) (lines : List Line) : Type 0 where
  pub lines_answered : counts.lines ≡ length lines
  pub long_lines : counts.long_lines ≡ long_count (texts_of_lines lines)
  pub memory : counts.memory ≡ count_by (λ line. is_short terms line.mark) lines
  pub faults : counts.faults ≡ 0

-- the whole stream was served: for some marks, the text of the lines of all that was left to read was written, and nothing else
pub record IsStreamed (terms : Terms) (start end : Lists) (unread before after : Option Text) (counts : Counts) : Type 0 where
  pub lines : List Line
  pub are_marks : AreMarks terms start lines
  pub lists_are : end ≡ lists_at terms start lines
  pub read : IfSome unread (λ bytes. texts_of_lines lines ≡ lines_of bytes)
  pub written : Appends before after (stream_text terms start lines)
  pub counted : AreCountsOf terms counts lines

-- a fault came: what was written is a front of the text of a front of the lines
pub record IsStreamedInPart (terms : Terms) (start end : Lists) (unread before after : Option Text) : Type 0 where
  pub lines : List Line
  pub are_marks : AreMarks terms start lines
  pub lists_are : end ≡ lists_at terms start lines
  pub read : IfSome unread (λ bytes. (rest : List Text) × (lines_of bytes ≡ texts_of_lines lines ++ rest))
  pub written : AppendsFront before after (stream_text terms start lines)

-- a fault came, and the text of all lines whose byte 10 was read, up to a number of lines, was written whole
pub record IsStreamedSoFar (terms : Terms) (start end : Lists) (most : ℕ) (unread left before after : Option Text) : Type 0 where
  pub lines : List Line
  pub are_marks : AreMarks terms start lines
  pub lists_are : end ≡ lists_at terms start lines
  pub consumed : Text
  pub read : Consumes unread left consumed
  pub ended : texts_of_lines lines ≡ take most (ended_lines consumed)
  pub written : Appends before after (stream_text terms start lines)

-- the turns are spent: a byte stands past the last line that may be answered, or as many reads as may be were made and none met the end; what was answered by then was written whole
pub record IsStreamSpent (terms : Terms) (start end : Lists) (turns : Turns) (unread left before after : Option Text) (reads : ℕ) (has_ended : Bool) : Type 0 where
  pub so_far : IsStreamedSoFar terms start end turns.lines unread left before after
  pub spent : StandsPast turns.lines (texts_of_lines so_far.lines) so_far.consumed ⊎ ((reads ≡ turns.reads) × (has_ended ≡ false))

-- what a call over the stream gives, whichever result it has: at Ok the whole stream was served, in at most as many lines as the turns allow; at each fault a front of it;
-- at `Read` and `TurnsSpent` all lines whose byte 10 was read, up to as many as the turns allow
pub record IsStreamOutcome (terms : Terms) (start end : Lists) (turns : Turns) (p : Passage) (result : Result Counts ServeError) : Type 0 where
  pub served : IfOk result (λ counts. IsStreamed terms start end p.unread p.before p.after counts)
  pub within : IfOk result (λ counts. counts.lines ≤ turns.lines)
  pub in_part : OnErr result (IsStreamedInPart terms start end p.unread p.before p.after)
  pub so_far : IsErrOf result Read → IsStreamedSoFar terms start end turns.lines p.unread p.left p.before p.after
  pub spent : IsErrOf result TurnsSpent → IsStreamSpent terms start end turns p.unread p.left p.before p.after p.reads p.ended
