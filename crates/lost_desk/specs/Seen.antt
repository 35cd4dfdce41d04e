-- What contracts see of a desk, of readers and of what a desk tells.
use Rattle.std.specs.Prelude.{◌<◌, ℕ, Bool, List, [], ◌∷◌, ◌++◌, length, MatchBool}
use Rattle.lost_spec.specs.Book.{Limits, Book, Edit, book_of}
use Rattle.lost_spec.specs.Laws.{BeginsWith}
use Rattle.lost_history.specs.History.{Opening}

-- a desk: which opening it is of, and so which copies are its own (`Copies.antt`); its limits, the edits that are published, and those that are pending
pub record DeskSeen : Type 0 where
  pub opening : Opening
  pub limits : Limits
  pub published : List Edit
  pub pending : List Edit

-- a reader: which opening it is of, and so which copies it reads; its limits, the edits that it has seen or was told of, the list of the copy that it entered last, and how often it
-- entered the copies
pub record ReaderSeen : Type 0 where
  pub opening : Opening
  pub limits : Limits
  pub seen : List Edit
  pub entered : List Edit
  pub entries : ℕ

-- readers: how many are left, and what each of them is
pub record ReadersSeen : Type 0 where
  pub left : ℕ
  pub each : ReaderSeen

-- a desk with no edits
abbrev pub new_desk : Opening → Limits → DeskSeen
new_desk opening limits = record { opening = opening; limits = limits; published = []; pending = [] }

-- a reader that has seen nothing
abbrev pub new_reader : Opening → Limits → ReaderSeen
new_reader opening limits = record { opening = opening; limits = limits; seen = []; entered = []; entries = 0 }

-- the book of the published and the pending edits together
abbrev pub staged_book : DeskSeen → Book
staged_book d = book_of d.limits (d.published ++ d.pending)

-- the book of the edits that a reader has seen
abbrev pub seen_book : ReaderSeen → Book
seen_book r = book_of r.limits r.seen

-- the desk with one more edit pending
abbrev pub with_staged : DeskSeen → Edit → DeskSeen
with_staged d e = record { opening = d.opening; limits = d.limits; published = d.published; pending = d.pending ++ e ∷ [] }

-- the desk with all that was pending published
abbrev pub with_committed : DeskSeen → DeskSeen
with_committed d = record { opening = d.opening; limits = d.limits; published = d.published ++ d.pending; pending = [] }

-- the desk with nothing pending, and the same published
abbrev pub with_none_pending : DeskSeen → DeskSeen
with_none_pending d = record { opening = d.opening; limits = d.limits; published = d.published; pending = [] }

-- the book of the published edits
abbrev pub published_book : DeskSeen → Book
published_book d = book_of d.limits d.published

-- the reader with this list seen
abbrev pub with_seen : ReaderSeen → List Edit → ReaderSeen
with_seen r es = record { opening = r.opening; limits = r.limits; seen = es; entered = r.entered; entries = r.entries }

-- one reader less
abbrev pub one_less : ReadersSeen → ℕ → ReadersSeen
one_less r left = record { left = left; each = r.each }

-- whether a list begins another one, told by a Bool; if not, the other one is shorter and begins it (own)
abbrev pub TellsBeginning : Bool → List Edit → List Edit → Type 0
TellsBeginning begins whole part = MatchBool begins (BeginsWith whole part) ((length whole < length part) × BeginsWith part whole)
