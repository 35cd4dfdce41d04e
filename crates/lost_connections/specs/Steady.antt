-- What a burst does to a connection: the lines that have come are answered in order, and their replies stand behind those that wait. (Own.)
use Rattle.std.specs.Prelude.{◌≡◌, ℕ, Bool, true, false, ◌||◌, List, [], ◌++◌, length, Result, Ok, Err}
use Rattle.std.specs.Io.KnownBytes.{Consumes, IsAtEnd}
use Rattle.lost_spec.specs.Text.{Text}
use Rattle.lost_worker.specs.Lines.{Worker}
use Rattle.lost_connections.specs.declared.burst.Burst.{Burst}
use Rattle.lost_connections.specs.declared.faults.ClientFault.{ClientFault}
use Rattle.lost_connections.specs.declared.faults.ClientFault.TheVariants.{Read, Write, Memory, Spent}
use Rattle.lost_connections.specs.Begun.{IsBegun, Splits, lines_at}
use Rattle.lost_connections.specs.Sent.{Sent}
use Rattle.lost_connections.specs.Replies.{Replied, AnswersAll, AnswersFront}
use Rattle.lost_connections.specs.Bursts.{Connection, burst_of, rest_of}

-- bytes came behind the line that was begun, none after the input's end, and the input ends only where nothing is left of it: they end lines, and a line is begun by what stands behind them
pub record Comes (a b : Connection) (piece : Text) : Type 0 where
  pub bytes : Text
  pub read : Consumes a.unread b.unread bytes
  pub none_after_end : a.ended ≡ true → (bytes ≡ []) × (b.ended ≡ true) × (b.unread ≡ a.unread)
  pub at_end : a.ended ≡ false → b.ended ≡ true → IsAtEnd b.unread
  pub lines : List Text
  pub rest : Text
  pub splits : Splits b.ended (piece ++ bytes) lines rest
  pub begun : IsBegun b.kept rest

-- the first half of a burst: so many bytes were read behind the line that was begun, and the replies to the lines that they end stand behind those that waited
pub record TakesIn (says : ℕ → Bool → Type 0) (name : Text) (old new : Worker) (a b : Connection) (piece : Text) (count : ℕ) : Type 0 where
  pub came : Comes a b piece
  pub counts : length came.bytes ≡ count
  pub answers : AnswersAll says name old new came.lines a.replied b.replied
  pub written : b.written ≡ a.written

-- a fault came while the lines were answered that the bytes end: a front of them was; a last piece is no line unless the input has ended
pub record StopsIn (says : ℕ → Bool → Type 0) (name : Text) (old new : Worker) (a b : Connection) (piece : Text) (fault : ClientFault) : Type 0 where
  pub bytes : Text
  pub read : Consumes a.unread b.unread bytes
  pub going : a.ended ≡ false
  pub at_end : b.ended ≡ true → IsAtEnd b.unread
  pub answers : AnswersFront says name old new (lines_at b.ended (piece ++ bytes)) a.replied b.replied fault
  pub written : b.written ≡ a.written

-- no byte came, and nothing was answered or written
pub record ReadsNothing (old new : Worker) (a b : Connection) : Type 0 where
  pub read : Consumes a.unread b.unread []
  pub same : new ≡ old
  pub kept : b.kept ≡ a.kept
  pub replied : b.replied ≡ a.replied
  pub written : b.written ≡ a.written
  pub ended : b.ended ≡ a.ended

-- the first half of a burst ended in a fault
abbrev pub BreaksIn : (ℕ → Bool → Type 0) → Text → Worker → Worker → Connection → Connection → Text → ClientFault → Type 0
BreaksIn says name old new a b piece Read = ReadsNothing old new a b
BreaksIn says name old new a b piece Write = ⊥
BreaksIn says name old new a b piece Memory = StopsIn says name old new a b piece Memory
BreaksIn says name old new a b piece Spent = StopsIn says name old new a b piece Spent

-- Steady: bytes were read behind the line that was begun, the lines that they end were answered in order by one worker, each from a list that begins with all that it had seen before, and of all replies that waited, these last, a front was written
pub record SteadyAfter (says : ℕ → Bool → Type 0) (name : Text) (old new : Worker) (a b : Connection) (piece : Text) : Type 0 where
  pub came : Comes a b piece
  pub waiting : Replied
  pub answers : AnswersAll says name old new came.lines a.replied waiting
  pub sent : Sent a.written b.written waiting.unsent b.replied.unsent
  pub counts : b.replied.counts ≡ waiting.counts
  pub most : b.replied.most ≡ waiting.most

-- the same, whatever line was begun
abbrev pub Steady : (ℕ → Bool → Type 0) → Text → Worker → Worker → Connection → Connection → Type 0
Steady says name old new a b = (piece : Text) → IsBegun a.kept piece → SteadyAfter says name old new a b piece

-- a burst is steady, and says what came, what was taken and which lines were answered
pub record SteadyBurst (says : ℕ → Bool → Type 0) (name : Text) (old new : Worker) (a b : Connection) (burst : Burst) (piece : Text) : Type 0 where
  pub steady : SteadyAfter says name old new a b piece
  pub is : burst ≡ burst_of a b steady.came.bytes steady.sent.taken steady.came.lines

abbrev pub Serves : (ℕ → Bool → Type 0) → Text → Worker → Worker → Connection → Connection → Burst → Type 0
Serves says name old new a b burst = (piece : Text) → IsBegun a.kept piece → SteadyBurst says name old new a b burst piece

-- a burst ended in a fault: at `Write` all was done but that a write failed; at each other nothing was written
abbrev pub BrokenAfter : (ℕ → Bool → Type 0) → Text → Worker → Worker → Connection → Connection → Text → ClientFault → Type 0
BrokenAfter says name old new a b piece Read = ReadsNothing old new a b
BrokenAfter says name old new a b piece Write = SteadyAfter says name old new a b piece
BrokenAfter says name old new a b piece Memory = StopsIn says name old new a b piece Memory
BrokenAfter says name old new a b piece Spent = StopsIn says name old new a b piece Spent

abbrev pub Broken : (ℕ → Bool → Type 0) → Text → Worker → Worker → Connection → Connection → ClientFault → Type 0
Broken says name old new a b fault = (piece : Text) → IsBegun a.kept piece → BrokenAfter says name old new a b piece fault

-- a read failed, and a write did
abbrev pub is_read : ClientFault → Bool
is_read Read = true
is_read Write = false
is_read Memory = false
is_read Spent = false

abbrev pub is_write : ClientFault → Bool
is_write Read = false
is_write Write = true
is_write Memory = false
is_write Spent = false

abbrev pub is_read_fault : {T : Type 0} → Result T ClientFault → Bool
is_read_fault (Ok value) = false
is_read_fault (Err fault) = is_read fault

abbrev pub is_write_fault : {T : Type 0} → Result T ClientFault → Bool
is_write_fault (Ok value) = false
is_write_fault (Err fault) = is_write fault

-- a read or a write failed exactly if the result says so, or if one had failed before
pub record TellsFaults {T : Type 0} (a b : Connection) (result : Result T ClientFault) : Type 0 where
  pub read : b.read_failed ≡ (a.read_failed || is_read_fault result)
  pub write : b.write_failed ≡ (a.write_failed || is_write_fault result)

-- of the replies that wait a front was written, and nothing else happened
pub record SendsRest (a b : Connection) : Type 0 where
  pub kept : b.kept ≡ a.kept
  pub unread : b.unread ≡ a.unread
  pub ended : b.ended ≡ a.ended
  pub sent : Sent a.written b.written a.replied.unsent b.replied.unsent
  pub counts : b.replied.counts ≡ a.replied.counts
  pub most : b.replied.most ≡ a.replied.most

-- and the burst says what was taken
pub record SendsRestAs (a b : Connection) (burst : Burst) : Type 0 where
  pub rest : SendsRest a b
  pub is : burst ≡ rest_of b rest.sent.taken
