-- How what a desk and a reader hold is seen.
use Rattle.std.specs.Prelude.{◌≡◌, ℕ, true, IsTrue, List, [], ◌∷◌, ◌++◌, map, Option, Some, None}
use Rattle.lost_spec.specs.Laws.{BeginsWith}
use Rattle.lost_spec.specs.Book.{Book, Edit, book_of, is_accepted}
use Rattle.lost_mapping.specs.declared.edit.Edit.{Edit as CodeEdit}
use Rattle.lost_mapping.specs.Edit.{edit_of}
use Rattle.lost_history.specs.History.{Opening, Beginning}
use Rattle.lost_digest.specs.Digest.{map_digest}
use Rattle.lost_desk.specs.declared.version.Version.{Version}
use Rattle.lost_desk.specs.declared.version.Operation.{Operation}
use Rattle.lost_desk.specs.declared.view.View.{View}
use Rattle.lost_desk.specs.Seen.{DeskSeen, ReaderSeen}
use Rattle.lost_desk.specs.Copies.{IsBookOfItsList, edits_in, first_version, taken_all}
use Rattle.lost_desk.specs.Rule.{nowhere, no_limits}

-- ---- the two copies: the one that is published, and the operations that it lacks

pub record CopiesSeen : Type 0 where
  pub shown : Version
  pub waiting : List Operation

-- by a writer, which is there
abbrev pub copies_seen : {Writer : Type 0} → (Writer → Version) → (Writer → List Operation) → Option Writer → CopiesSeen
copies_seen shown waiting None = record { shown = first_version nowhere no_limits; waiting = [] }
copies_seen shown waiting (Some writer) = record { shown = shown writer; waiting = waiting writer }

abbrev pub IsThere : {Thing : Type 0} → Option Thing → Type 0
IsThere None = ⊥
IsThere (Some thing) = Unit {0}

abbrev pub with_waiting : CopiesSeen → Operation → CopiesSeen
with_waiting c operation = record { shown = c.shown; waiting = c.waiting ++ operation ∷ [] }

-- the copies once all that waits is published
abbrev pub next_of : CopiesSeen → Version
next_of c = taken_all c.shown c.waiting

abbrev pub with_published : CopiesSeen → CopiesSeen
with_published c = record { shown = next_of c; waiting = [] }

-- a version may be published after another: it is the book of its list, which begins with that of the other
pub record MayFollow (v next : Version) : Type 0 where
  pub copy : IsBookOfItsList next
  pub begins : BeginsWith next.front.list v.front.list
  pub limits : next.book.limits ≡ v.book.limits
  pub opening : next.front.opening ≡ v.front.opening

-- ---- a desk

-- the edits that wait in the copies, and those that are queued before them
abbrev pub pending_of : CopiesSeen → List CodeEdit → List Edit
pending_of c queue = edits_in c.waiting ++ map edit_of queue

-- all edits, published and pending
abbrev pub all_edits : CopiesSeen → List CodeEdit → List Edit
all_edits c queue = c.shown.front.list ++ pending_of c queue

abbrev pub desk_seen : CopiesSeen → List CodeEdit → DeskSeen
desk_seen c queue = record { opening = c.shown.front.opening; limits = c.shown.book.limits; published = c.shown.front.list; pending = pending_of c queue }

-- the published copy is the book of its list, and the book ahead that of all edits, which are accepted; the history begins them; the digest is that of what is
-- published
pub record IsDesk (c : CopiesSeen) (queue : List CodeEdit) (book : Book) (history : Beginning) (right : Opening) (digest : ℕ) : Type 0 where
  pub copy : IsBookOfItsList c.shown
  pub ahead : book ≡ book_of c.shown.book.limits (c.shown.front.list ++ pending_of c queue)
  pub accepted : IsTrue (is_accepted c.shown.book.limits (c.shown.front.list ++ pending_of c queue))
  pub reached : BeginsWith (c.shown.front.list ++ pending_of c queue) history.list
  pub opening : history.opening ≡ c.shown.front.opening
  pub head : right ≡ history.opening
  pub digest_is : digest ≡ map_digest c.shown.book.mappings

-- a front has all edits of a desk, published and pending
pub record IsReady (c : CopiesSeen) (queue : List CodeEdit) (f : Beginning) : Type 0 where
  pub copy : IsBookOfItsList c.shown
  pub list : f.list ≡ c.shown.front.list ++ pending_of c queue
  pub accepted : IsTrue (is_accepted c.shown.book.limits f.list)
  pub opening : f.opening ≡ c.shown.front.opening

-- the copy once all edits are published
abbrev pub published_version : CopiesSeen → Beginning → Version
published_version c f = record { book = book_of c.shown.book.limits f.list; front = f; seal = c.shown.seal }

-- ---- a reader

-- by a seat, which is there, and the longest list that it has seen or was told of
abbrev pub reader_seen : {Seat : Type 0} → (Seat → View) → Option Seat → Beginning → ReaderSeen
reader_seen at None latest = record { opening = latest.opening; limits = no_limits; seen = latest.list; entered = []; entries = 0 }
reader_seen at (Some seat) latest = record { opening = latest.opening; limits = (at seat).limits; seen = latest.list; entered = (at seat).front.list; entries = (at seat).entries }

-- the seat knows the copies, its opening is that of the list, and the list begins with that of the copy that it entered last
pub record IsSeated (w : View) (latest : Beginning) : Type 0 where
  pub known : w.is_known ≡ true
  pub opening : w.front.opening ≡ latest.opening
  pub begins : BeginsWith latest.list w.front.list

abbrev pub IsReader : {Seat : Type 0} → (Seat → View) → Option Seat → Beginning → Type 0
IsReader at None latest = ⊥
IsReader at (Some seat) latest = IsSeated (at seat) latest
