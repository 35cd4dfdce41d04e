-- What a stream of lines gives: served to its end, or up to a fault. (Own.)
use Rattle.std.specs.Prelude.{◌≡◌, ◌⊎◌, ◌<◌, ℕ, ◌+◌, Bool, true, false, List, [], ◌∷◌, ◌++◌, take, length, Option, IfSome}
use Rattle.std.specs.Io.KnownBytes.{Appends, Consumes}
use Rattle.lost_spec.specs.Text.{Text}
use Rattle.lost_lines.specs.declared.counts.Counts.{Counts}
use Rattle.lost_lines.specs.declared.turns.Turns.{Turns}
use Rattle.lost_lines.specs.Cutting.{lines_of, ended_lines}
use Rattle.lost_lines.specs.Run.{Cut, Reply, Run, text_of, long_count, memory_count}
use Rattle.lost_lines.specs.Gate.{LetThrough}

-- counts are those of lines and of the replies to them; none is a connection's fault
pub record AreCounts (counts : Counts) (lines : List Text) (replies : List Reply) : Type 0 where
  pub lines_answered : counts.lines ≡ length lines
  pub long_lines : counts.long_lines ≡ long_count lines
  pub memory : counts.memory ≡ memory_count replies
  pub faults : counts.faults ≡ 0

-- known bytes grow by a front of the text
abbrev pub AppendsFront : Option Text → Option Text → Text → Type 0
AppendsFront old new text = (front : Text) × (rest : Text) × (text ≡ front ++ rest) × Appends old new front

-- the whole stream is served: the replies to the lines of all that was left to read were written, and nothing else; the gate let each line through
pub record IsServed {State : Type 0} (says : ℕ → Bool → Type 0) (step : State → Cut → Reply → State → Type 0) (old new : State) (unread : Option Text) (before after : Option Text) (counts : Counts) : Type 0 where
  pub lines : List Text
  pub replies : List Reply
  pub run : Run step old lines replies new
  pub let_through : LetThrough says (length lines)
  pub read : IfSome unread (λ bytes. lines ≡ lines_of bytes)
  pub written : Appends before after (text_of replies)
  pub counted : AreCounts counts lines replies

-- a fault came: what was written is a front of the replies to a front of the lines, each of which the gate let through
pub record IsCutOff {State : Type 0} (says : ℕ → Bool → Type 0) (step : State → Cut → Reply → State → Type 0) (old new : State) (unread : Option Text) (before after : Option Text) : Type 0 where
  pub lines : List Text
  pub replies : List Reply
  pub run : Run step old lines replies new
  pub let_through : LetThrough says (length lines)
  pub read : IfSome unread (λ bytes. (rest : List Text) × (lines_of bytes ≡ lines ++ rest))
  pub written : AppendsFront before after (text_of replies)

-- a fault came, and the replies to all lines whose byte 10 was read, up to a number of lines, were written whole
pub record IsWholeSoFar {State : Type 0} (says : ℕ → Bool → Type 0) (step : State → Cut → Reply → State → Type 0) (old new : State) (most : ℕ) (unread left : Option Text) (before after : Option Text) : Type 0 where
  pub lines : List Text
  pub replies : List Reply
  pub consumed : Text
  pub run : Run step old lines replies new
  pub let_through : LetThrough says (length lines)
  pub read : Consumes unread left consumed
  pub ended : lines ≡ take most (ended_lines consumed)
  pub written : Appends before after (text_of replies)

-- as many lines as may be were ended, and a byte stands past them
pub record StandsPast (most : ℕ) (lines : List Text) (consumed : Text) : Type 0 where
  pub front : Text
  pub byte : ℕ
  pub rest : Text
  pub spent : length lines ≡ most
  pub ended : ended_lines front ≡ lines
  pub past : consumed ≡ front ++ byte ∷ rest

-- the turns are spent: a byte stands past the last line that may be answered, or as many reads as may be were made and none met the end; all lines that may be were answered
pub record IsSpent {State : Type 0} (says : ℕ → Bool → Type 0) (step : State → Cut → Reply → State → Type 0) (old new : State) (turns : Turns) (unread left : Option Text) (before after : Option Text) (reads : ℕ) (has_ended : Bool) : Type 0 where
  pub whole : IsWholeSoFar says step old new turns.lines unread left before after
  pub spent : StandsPast turns.lines whole.lines whole.consumed ⊎ ((reads ≡ turns.reads) × (has_ended ≡ false))

-- the line after these was read: its byte 10 was, or the input ended in it
abbrev pub IsNext : List Text → Text → Text → Bool → Type 0
IsNext lines line consumed has_ended =
    ((others : List Text) × (ended_lines consumed ≡ lines ++ line ∷ others)) ⊎ ((has_ended ≡ true) × (lines_of consumed ≡ lines ++ line ∷ []))

-- the gate refused a line: the replies to all lines before it were written whole, and nothing else
pub record IsHeldBack {State : Type 0} (says : ℕ → Bool → Type 0) (step : State → Cut → Reply → State → Type 0) (old new : State) (most : ℕ) (unread left : Option Text) (before after : Option Text) (has_ended : Bool) : Type 0 where
  pub lines : List Text
  pub line : Text
  pub replies : List Reply
  pub consumed : Text
  pub run : Run step old lines replies new
  pub let_through : LetThrough says (length lines)
  pub refused : says (length lines + 1) false
  pub within : length lines < most
  pub read : Consumes unread left consumed
  pub next : IsNext lines line consumed has_ended
  pub written : Appends before after (text_of replies)
