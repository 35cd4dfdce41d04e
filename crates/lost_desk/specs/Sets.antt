-- What is kept of places, and the mappings of a set.
use Rattle.std.specs.Prelude.{◌≡◌, ℕ, Bool, false, not, ◌&&◌, ◌⊎◌, ◌↔◌, List, slice_get}
use Rattle.std.specs.Option.{option_map_or}
use Rattle.lost_spec.specs.Place.{Place}
use Rattle.lost_spec.specs.Moment.{Instant}
use Rattle.lost_spec.specs.Mapping.{Mapping, is_live}
use Rattle.lost_spec.specs.Book.{Limits, Book, Edit}
use Rattle.lost_spec.specs.Holders.{Entry, IsRightIn, IsRightFor, holders_of}

abbrev pub entry : ℕ → Place → List ℕ → Entry
entry edition place set = record { edition = edition; place = place; set = set }

-- a mapping that is live at t and is no default stands at this position
abbrev pub is_living_at : Instant → List Mapping → ℕ → Bool
is_living_at t ms i = option_map_or (λ m. is_live m t && not m.is_default) (slice_get ms i) false

-- each entry that is kept is right for a list of edits (own)
abbrev pub AreRightFor : (Entry → Type 0) → Limits → List Edit → Type 0
AreRightFor keeps limits es = (e : Entry) → keeps e → IsRightFor limits es e

-- each entry that is kept is right for a book (own)
abbrev pub AreRightIn : (Entry → Type 0) → Book → Type 0
AreRightIn keeps b = (e : Entry) → keeps e → IsRightIn b e

-- an entry is the set of its place in a book
pub record IsOfBook (b : Book) (e : Entry) : Type 0 where
  pub edition : e.edition ≡ b.edits
  pub set : e.set ≡ holders_of b e.place

-- nothing is kept but what was kept before and entries of a book
abbrev pub KeepsOnly : (Entry → Type 0) → Book → (Entry → Type 0) → Type 0
KeepsOnly before b after = (e : Entry) → after e → before e ⊎ IsOfBook b e

-- the same entries are kept (own)
abbrev pub KeepsTheSame : (Entry → Type 0) → (Entry → Type 0) → Type 0
KeepsTheSame before after = (e : Entry) → after e ↔ before e
