-- How request lines are answered by what replies to them, at the moments that are given. (Own.)
use Rattle.std.specs.Prelude.{◌≡◌, ℕ, ◌+◌, Bool, true, false, IsTrue, List, Option, ◌⊎◌}
use Rattle.lost_spec.specs.Text.{Text}
use Rattle.lost_spec.specs.Moment.{Instant}
use Rattle.lost_spec.specs.Book.{is_accepted}
use Rattle.lost_spec.specs.Laws.{BeginsWith}
use Rattle.lost_json.specs.Line.{line_reply}
use Rattle.lost_desk.specs.Seen.{ReaderSeen, seen_book}
use Rattle.lost_lines.specs.declared.counts.Counts.{Counts}
use Rattle.lost_lines.specs.Stream.{IsServed}
use Rattle.lost_lines.specs.Run.{Cut, Whole, TooLong, Unread, Reply}
use Rattle.lost_json.specs.Stream.{bad_request, internal_error}
use Rattle.lost_worker.specs.Moments.{Gives}

-- what answers the lines of a connection: what it has seen, and the moments that are told
pub record Worker : Type 0 where
  pub reader : ReaderSeen
  pub moments : List Instant

-- the reply is the answer from the list seen then, at this moment, and the replier entered once more, a copy of that list
pub record IsReply (name : Text) (t : Instant) (old : ReaderSeen) (line : Text) (reply : Reply) (new : ReaderSeen) : Type 0 where
  pub text : reply.text ≡ line_reply (seen_book new) name t line
  pub is_no_refusal : reply.is_internal_error ≡ false
  pub entered : new.entries ≡ old.entries + 1
  pub entered_list : new.seen ≡ new.entered
  pub one_list : IsTrue (is_accepted new.limits new.seen)

-- a text is said in place of an answer
pub record IsSaid (text : Text) (is_internal_error : Bool) (reply : Reply) : Type 0 where
  pub said : reply.text ≡ text
  pub counts : reply.is_internal_error ≡ is_internal_error

-- a line goes to the replier, at the next moment: the list seen then begins with the one before, and the reply is its answer, or `internalError` where memory was refused
pub record IsAnswered (name : Text) (old : Worker) (line : Text) (reply : Reply) (new : Worker) : Type 0 where
  pub moment : Instant
  pub given : Gives old.moments moment new.moments
  pub begins : BeginsWith new.reader.seen old.reader.seen
  pub same : (new.reader.opening ≡ old.reader.opening) × (new.reader.limits ≡ old.reader.limits)
  pub reply_is : IsReply name moment old.reader line reply new.reader ⊎ IsSaid internal_error true reply

-- a line is answered as it was cut; one that is over the limit or was not kept takes no moment and changes nothing
abbrev pub Answers : Text → Worker → Cut → Reply → Worker → Type 0
Answers name old (Whole line) reply new = IsAnswered name old line reply new
Answers name old TooLong reply new = IsSaid bad_request false reply × (new ≡ old)
Answers name old Unread reply new = IsSaid internal_error true reply × (new ≡ old)

-- what a worker has seen grew, and it is of the same desk
pub record HasSeenMore (old new : ReaderSeen) : Type 0 where
  pub begins : BeginsWith new.seen old.seen
  pub opening : new.opening ≡ old.opening
  pub limits : new.limits ≡ old.limits

-- the counts of a connection: it was served to its end and they are those of its lines, or they are one fault and nothing else
abbrev pub CountsConnection : (ℕ → Bool → Type 0) → (Worker → Cut → Reply → Worker → Type 0) → Worker → Worker → Option Text → Option Text → Counts → Type 0
CountsConnection says step old new unread before counts =
    ((after : Option Text) × IsServed says step old new unread before after counts) ⊎ (counts ≡ record { lines = 0; long_lines = 0; memory = 0; faults = 1 })
