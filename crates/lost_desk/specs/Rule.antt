-- The rule over the copies and their seats, and what each kind of step tells.
use Rattle.std.specs.Prelude.{◌≡◌, ℕ, ◌+◌, true, false, List, []}
use mathlib.Core.Option.{some}
use lib.ListN.{get_elem?}
use Rattle.lost_spec.specs.Laws.{BeginsWith}
use Rattle.lost_spec.specs.Book.{Limits}
use Rattle.lost_history.specs.History.{Opening, beginning}
use Rattle.lost_desk.specs.declared.version.Version.{Version}
use Rattle.lost_desk.specs.declared.view.View.{View}
use Rattle.lost_desk.specs.Seen.{ReaderSeen, new_reader}
use Rattle.lost_desk.specs.Copies.{IsBookOfItsList}

-- a seat whose limits and opening are those of the copies
pub record IsOf (v : Version) (w : View) : Type 0 where
  pub limits : w.limits ≡ v.book.limits
  pub opening : w.front.opening ≡ v.front.opening

-- a seat beside the published copy: it has seen a beginning of the published list, and what it knows is so
pub record IsBeside (v : Version) (w : View) : Type 0 where
  pub seen : BeginsWith v.front.list w.front.list
  pub known : w.is_known ≡ true → IsOf v w

-- the published copy is the book of its list, and each seat is beside it
pub record IsOneList (v : Version) (views : List View) : Type 0 where
  pub copy : IsBookOfItsList v
  pub seats : (seat : ℕ) (w : View) → get_elem? views seat ≡ some w → IsBeside v w

-- no opening
abbrev pub nowhere : Opening
nowhere = record { number = 0; log_name = 0; cells_name = 0 }

-- the limits of nothing, where there is no book
abbrev pub no_limits : Limits
no_limits = record { mappings = 0; edits = 0; traces = 0 }

-- a seat that nobody has yet
abbrev pub newcomer : View
newcomer = record { is_known = false; limits = no_limits; front = beginning nowhere []; entries = 0 }

-- a seat that has seen nothing of copies that it knows
abbrev pub named : Version → View
named v = record { is_known = true; limits = v.book.limits; front = beginning v.front.opening []; entries = 0 }

-- Enter: the list seen becomes that of the published copy, which begins with the one seen before, and the entries are one more
pub record Enters (before : View) (v next : Version) (after : View) : Type 0 where
  pub copy : IsBookOfItsList next
  pub seen : after.front ≡ next.front
  pub begins : BeginsWith next.front.list before.front.list
  pub entries : after.entries ≡ before.entries + 1
  pub known : before.is_known ≡ true → IsOf next before
  pub kept : (after.is_known ≡ before.is_known) × (after.limits ≡ before.limits)

-- Name, at opening: what the copies are becomes known
abbrev pub names : View → Version → Version → View → Type 0
names before v next after = after ≡ named v

-- Show: a publication, which changes no view
abbrev pub shows : View → Version → Version → View → Type 0
shows before v next after = after ≡ before

-- the writer's seat knows what its copies are, which have nothing yet
pub record IsNewWriter (v : Version) (w : View) : Type 0 where
  pub knows : w ≡ named v
  pub empty : v.front.list ≡ []

-- a reader of such copies that has seen nothing
abbrev pub reader_of : Version → ReaderSeen
reader_of v = new_reader v.front.opening v.book.limits
