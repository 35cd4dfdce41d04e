-- The replies of a connection: those that wait, and the counts of all lines that were answered. (Own.)
use Rattle.std.specs.Prelude.{◌≡◌, ◌+◌, ◌-◌, ◌^◌, ◌⊎◌, min, ℕ, Bool, false, List, ◌++◌, length, Some}
use Rattle.lost_spec.specs.Text.{Text}
use Rattle.lost_lines.specs.declared.counts.Counts.{Counts}
use Rattle.lost_lines.specs.Cutting.{cut}
use Rattle.lost_lines.specs.Gate.{LetThrough}
use Rattle.lost_lines.specs.Run.{Reply, Run, text_of}
use Rattle.lost_lines.specs.Serving.{Adds}
use Rattle.lost_lines.specs.Stream.{AppendsFront}
use Rattle.lost_worker.specs.Lines.{Worker, Answers}
use Rattle.lost_connections.specs.declared.faults.ClientFault.{ClientFault}
use Rattle.lost_connections.specs.declared.faults.ClientFault.TheVariants.{Memory, Spent}
use Rattle.lost_connections.specs.Begun.{IsBegun}

-- the replies that wait, the counts of the lines that were answered, and how many lines there may be
pub record Replied : Type 0 where
  pub unsent : Text
  pub counts : Counts
  pub most : ℕ

-- once so many bytes of replies wait, nothing is read
abbrev pub most_unsent : ℕ
most_unsent = 1048576

-- no line was answered
abbrev pub no_counts : Counts
no_counts = record { lines = 0; long_lines = 0; memory = 0; faults = 0 }

-- counts of lines, and those of more lines
abbrev pub sum_of : Counts → Counts → Counts
sum_of some more = record { lines = some.lines + more.lines; long_lines = some.long_lines + more.long_lines; memory = some.memory + more.memory; faults = some.faults }

-- what a gate says of lines that come behind so many others; their numbers stop at the greatest of 64 bits
abbrev pub onward : (ℕ → Bool → Type 0) → ℕ → ℕ → Bool → Type 0
onward says before line answer = says (min (before + line) (2 ^ 64 - 1)) answer

-- lines were answered, one after another, each of which the gate let through by its number in the connection; they are counted, and their replies stand behind those that waited
pub record AnswersAll (says : ℕ → Bool → Type 0) (name : Text) (old new : Worker) (lines : List Text) (x y : Replied) : Type 0 where
  pub replies : List Reply
  pub run : Run (Answers name) old lines replies new
  pub let_through : LetThrough (onward says x.counts.lines) (length lines)
  pub behind : y.unsent ≡ x.unsent ++ text_of replies
  pub counted : Adds x.counts y.counts lines replies
  pub same_most : y.most ≡ x.most

-- bytes came behind a line that was begun: the lines that they end were answered, and a line is begun by what stands behind them
pub record AnswersBehind (says : ℕ → Bool → Type 0) (name : Text) (old new : Worker) (piece bytes : Text) (x y : Replied) (kept : Text) : Type 0 where
  pub lines : List Text
  pub rest : Text
  pub cuts : cut (piece ++ bytes) ≡ (lines, rest)
  pub begun : IsBegun kept rest
  pub answers : AnswersAll says name old new lines x y

-- no further line may be answered: there were as many as may be, or the gate refused the next
abbrev pub IsSpent : (ℕ → Bool → Type 0) → ℕ → ℕ → ℕ → Type 0
IsSpent says most before count = (before + count ≡ most) ⊎ onward says before (count + 1) false

-- a fault that comes while lines are answered
abbrev pub IsAnswering : ClientFault → Type 0
IsAnswering fault = (fault ≡ Memory) ⊎ (fault ≡ Spent)

-- lines were answered, each of which the gate let through, and then a fault came: none of them or all are counted, and of their replies a front stands behind those that waited; where the lines are spent all of them do
pub record AnswersSome (says : ℕ → Bool → Type 0) (name : Text) (old new : Worker) (lines : List Text) (replies : List Reply) (x y : Replied) (fault : ClientFault) : Type 0 where
  pub run : Run (Answers name) old lines replies new
  pub let_through : LetThrough (onward says x.counts.lines) (length lines)
  pub behind : AppendsFront (Some x.unsent) (Some y.unsent) (text_of replies)
  pub counted : (y.counts ≡ x.counts) ⊎ Adds x.counts y.counts lines replies
  pub same_most : y.most ≡ x.most
  pub cause : IsAnswering fault
  pub whole : fault ≡ Spent → y.unsent ≡ x.unsent ++ text_of replies
  pub spent : fault ≡ Spent → IsSpent says x.most x.counts.lines (length lines)

-- a fault came while lines were answered: a front of them was
pub record AnswersFront (says : ℕ → Bool → Type 0) (name : Text) (old new : Worker) (all : List Text) (x y : Replied) (fault : ClientFault) : Type 0 where
  pub lines : List Text
  pub others : List Text
  pub begins : all ≡ lines ++ others
  pub replies : List Reply
  pub answered : AnswersSome says name old new lines replies x y fault
