-- What the bursts of a connection come to, while its worker serves others in between. (Own.)
use Rattle.std.specs.Prelude.{◌≡◌, ℕ, Bool, ◌++◌, List, length}
use Rattle.std.specs.Io.KnownBytes.{Appends}
use Rattle.lost_spec.specs.Text.{Text}
use Rattle.lost_lines.specs.Gate.{LetThrough}
use Rattle.lost_lines.specs.Run.{Cut, Reply, Run, text_of}
use Rattle.lost_lines.specs.Serving.{Adds}
use Rattle.lost_worker.specs.Lines.{Worker, Answers, HasSeenMore}
use Rattle.lost_connections.specs.Begun.{IsBegun}
use Rattle.lost_connections.specs.Replies.{onward}
use Rattle.lost_connections.specs.Bursts.{Connection}
use Rattle.lost_connections.specs.Steady.{Comes, Steady}

-- a line is answered, once the worker has seen as much as it had seen before or more
abbrev pub AnswersLater : Text → Worker → Cut → Reply → Worker → Type 0
AnswersLater name old cut reply new = (now : Worker) × HasSeenMore old.reader now.reader × Answers name now cut reply new

-- bytes came behind the line that was begun, each line that they end was answered in order, from a list that begins with those of all lines before it, and let through by its number in the connection; they are counted, and of the replies that waited, these last, a front was written
pub record StreamAfter (says : ℕ → Bool → Type 0) (name : Text) (old new : Worker) (a b : Connection) (piece : Text) : Type 0 where
  pub came : Comes a b piece
  pub replies : List Reply
  pub last : Worker
  pub run : Run (AnswersLater name) old came.lines replies last
  pub grown : HasSeenMore last.reader new.reader
  pub let_through : LetThrough (onward says a.replied.counts.lines) (length came.lines)
  pub counted : Adds a.replied.counts b.replied.counts came.lines replies
  pub taken : Text
  pub appended : Appends a.written b.written taken
  pub in_order : a.replied.unsent ++ text_of replies ≡ taken ++ b.replied.unsent

-- the same, whatever line was begun
abbrev pub IsStream : (ℕ → Bool → Type 0) → Text → Worker → Worker → Connection → Connection → Type 0
IsStream says name old new a b = (piece : Text) → IsBegun a.kept piece → StreamAfter says name old new a b piece

-- one burst is a stream
abbrev pub BurstIsStream : (ℕ → Bool → Type 0) → Type 0
BurstIsStream says = (name : Text) (old new : Worker) (a b : Connection) → Steady says name old new a b → IsStream says name old new a b

-- and so are bursts one after another, whatever else the worker did in between
abbrev pub BurstsAreStream : (ℕ → Bool → Type 0) → Type 0
BurstsAreStream says = (name : Text) (old one later new : Worker) (a b c : Connection) → IsStream says name old one a b → HasSeenMore one.reader later.reader → Steady says name later new b c → IsStream says name old new a c
