-- What has become of a stream that is being served, from one point of it to a later one.
use Rattle.std.specs.Prelude.{◌≡◌, ◌⊎◌, ◌<◌, ℕ, ◌+◌, Bool, List, ◌++◌, length, Option}
use Rattle.lost_spec.specs.Text.{Text}
use Rattle.lost_lines.specs.declared.counts.Counts.{Counts}
use Rattle.lost_lines.specs.declared.cutter.Cutter.{Cutter}
use Rattle.lost_lines.specs.declared.server.LineServer.{LineServer}
use Rattle.lost_lines.specs.Cutting.{cut, ended_lines}
use Rattle.lost_lines.specs.Run.{Cut, Reply, Run, text_of, long_count, memory_count}
use Rattle.lost_lines.specs.Cutter.{IsHolding, count_of}
use Rattle.lost_lines.specs.Tally.{counts_of, most_of}
use Rattle.lost_lines.specs.Sending.{Sends}
use Rattle.lost_lines.specs.Stream.{AppendsFront}
use Rattle.lost_lines.specs.Gate.{IsHeldAt}

-- a point of a stream: what answers its lines, what is known of the output, and the server
pub record Point (State : Type 0) : Type 0 where
  pub answerer : State
  pub contents : Option Text
  pub server : LineServer

-- what a server has of the line that is being read, what it has gathered, what it has counted, and how many lines it may answer
abbrev pub cutter_of : LineServer → Cutter
cutter_of s = s.cutter

abbrev pub gathered_of : LineServer → Text
gathered_of s = s.gathered.items

abbrev pub server_counts : LineServer → Counts
server_counts s = counts_of s.tally

abbrev pub server_most : LineServer → ℕ
server_most s = most_of s.tally

-- counts grow by those of lines and of the replies to them
pub record Adds (old new : Counts) (lines : List Text) (replies : List Reply) : Type 0 where
  pub lines_answered : new.lines ≡ old.lines + length lines
  pub long_lines : new.long_lines ≡ old.long_lines + long_count lines
  pub memory : new.memory ≡ old.memory + memory_count replies
  pub faults : new.faults ≡ old.faults

-- lines were answered and counted, and the replies gathered or sent
pub record Serves {State : Type 0} (step : State → Cut → Reply → State → Type 0) (old new : Point State) (lines : List Text) : Type 0 where
  pub replies : List Reply
  pub run : Run step old.answerer lines replies new.answerer
  pub sending : Sends old.contents (gathered_of old.server) new.contents (gathered_of new.server) (text_of replies)
  pub counted : Adds (server_counts old.server) (server_counts new.server) lines replies

-- lines were answered, and a front of the replies was sent
pub record Breaks {State : Type 0} (step : State → Cut → Reply → State → Type 0) (old new : Point State) (lines : List Text) : Type 0 where
  pub replies : List Reply
  pub run : Run step old.answerer lines replies new.answerer
  pub written : AppendsFront old.contents new.contents (gathered_of old.server ++ text_of replies)

-- bytes were taken, after a piece of a line, and the lines that they end were served
pub record Moves {State : Type 0} (step : State → Cut → Reply → State → Type 0) (old new : Point State) (piece bytes : Text) : Type 0 where
  pub lines : List Text
  pub rest : Text
  pub cuts : cut (piece ++ bytes) ≡ (lines, rest)
  pub held : IsHolding (cutter_of new.server) rest
  pub serves : Serves step old new lines

-- the same, whatever the piece was
abbrev pub Advances : {State : Type 0} → (State → Cut → Reply → State → Type 0) → Point State → Point State → Text → Type 0
Advances step old new bytes = (piece : Text) → IsHolding (cutter_of old.server) piece → Moves step old new piece bytes

-- a fault came among bytes, after a piece of a line, and a front of the lines that they end was answered
pub record Stops {State : Type 0} (step : State → Cut → Reply → State → Type 0) (old new : Point State) (piece bytes : Text) : Type 0 where
  pub lines : List Text
  pub others : List Text
  pub begins : ended_lines (piece ++ bytes) ≡ lines ++ others
  pub breaks : Breaks step old new lines

-- the same, whatever the piece was
abbrev pub Fails : {State : Type 0} → (State → Cut → Reply → State → Type 0) → Point State → Point State → Text → Type 0
Fails step old new bytes = (piece : Text) → IsHolding (cutter_of old.server) piece → Stops step old new piece bytes

-- a point of a stream by its parts; how many lines were answered stands beside what answers
abbrev pub point_of : {State : Type 0} → State → Option Text → LineServer → Point (ℕ × State)
point_of answerer contents server = record { answerer = ((server_counts server).lines, answerer); contents = contents; server = server }

-- where a line is begun, one more may be answered
abbrev pub MayEnd : LineServer → Type 0
MayEnd s = 0 < count_of (cutter_of s) → (server_counts s).lines < server_most s

-- a front of the bytes was taken
pub record TakesFront {State : Type 0} (step : State → Cut → Reply → State → Type 0) (old new : Point State) (bytes rest : Text) : Type 0 where
  pub front : Text
  pub splits : bytes ≡ front ++ rest
  pub advances : Advances step old new front

-- a front of the bytes was taken, all of them unless no further line may be answered or the gate refused the next
pub record TakesUpTo {State : Type 0} (says : ℕ → Bool → Type 0) (step : State → Cut → Reply → State → Type 0) (old new : Point State) (bytes rest : Text) : Type 0 where
  pub taken : TakesFront step old new bytes rest
  pub stopped : 0 < length rest → ((server_counts new.server).lines ≡ server_most new.server) ⊎ IsHeldAt says (server_counts new.server).lines (server_most new.server) rest
