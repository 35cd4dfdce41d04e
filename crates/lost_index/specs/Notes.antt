-- What is noted of numbers under keys (own).
use Rattle.std.specs.Prelude.{◌≡◌, ◌≢◌, ◌⊎◌, ℕ, Bool, true, false, not, ◌&&◌, ◌||◌, Option, None, Some, List, [], AllPairs, Contains, IfSome, map, filter, nat_eq}
use Rattle.std.specs.HashMap.{HashMap, get}
use Rattle.std.specs.List.{list_any}
use Rattle.std.specs.List.Sorted.{IsNonDecreasingBy}
use Rattle.std.specs.Option.{option_map_or}
use Rattle.lost_index.specs.Entries.{regions_of}
use Rattle.lost_index.specs.declared.note.Note.{Note}

-- the notes of a cell; none where there is no cell
abbrev pub notes_of : {O : Type 0} → Option (List (Note O)) → List (Note O)
notes_of None = []
notes_of (Some notes) = notes

-- no list of notes is empty
abbrev pub HasNoEmptyList : {K O S : Type 0} → (K → K → Bool) → HashMap K (List (Note O)) S → Type 0
HasNoEmptyList {K} eq cells = (key : K) → IfSome (get eq cells key) (λ notes. notes ≢ [])

-- the number of a note
abbrev pub number_of : {O : Type 0} → Note O → ℕ
number_of note = note.number

-- whether a note is of the number, with an equal outline
abbrev pub is_note : {O : Type 0} → (O → O → Bool) → ℕ → O → Note O → Bool
is_note same number outline note = nat_eq number note.number && same outline note.outline

-- whether one of the notes is
abbrev pub has_note : {O : Type 0} → (O → O → Bool) → ℕ → O → List (Note O) → Bool
has_note same number outline notes = list_any (is_note same number outline) notes

-- what a cell is: its numbers rise, and no note is of the number and the outline of an earlier one
pub record IsCell {O : Type 0} (same : O → O → Bool) (notes : List (Note O)) : Type 0 where
  pub rising : IsNonDecreasingBy number_of notes
  pub distinct : AllPairs (λ note later. is_note same note.number note.outline later ≡ false) notes

-- one of the regions has the key in its cover, and has the outline
pub record IsUnder {R K O : Type 0} (cover_of : R → List K) (outline_of : R → O) (regions : List R) (key : K) (outline : O) : Type 0 where
  pub region : R
  pub stands : Contains regions region
  pub covered : Contains (cover_of region) key
  pub outlined : outline ≡ outline_of region

-- whether one of the regions has the key in its cover
abbrev pub covers : {R K : Type 0} → (K → K → Bool) → (R → List K) → List R → K → Bool
covers eq cover_of regions key = list_any (λ region. list_any (eq key) (cover_of region)) regions

module _ {R K O : Type 0} (eq : K → K → Bool) (same : O → O → Bool) (cover_of : R → List K) (outline_of : R → O) where
  -- whether one of the regions has the key in its cover, and an equal outline
  abbrev pub covers_with : List R → K → O → Bool
  covers_with regions key outline = list_any (λ region. same outline (outline_of region) && list_any (eq key) (cover_of region)) regions

  -- whether there are regions, of which one does
  abbrev pub some_covers : Option (List R) → K → O → Bool
  some_covers regions key outline = option_map_or (λ regions. covers_with regions key outline) regions false

  -- whether a note under the key stays where those of the number go, but for those of the regions
  abbrev pub stays : ℕ → List R → K → Note O → Bool
  stays number regions key note = not (nat_eq number note.number) || covers_with regions key note.outline

module _ {K O S : Type 0} (eq : K → K → Bool) (same : O → O → Bool) where
  -- the number is noted under the key, with an equal outline
  abbrev pub HasNote : HashMap K (List (Note O)) S → K → ℕ → O → Type 0
  HasNote cells key number outline = has_note same number outline (notes_of (get eq cells key)) ≡ true

  -- what was noted is
  abbrev pub KeepsNotes : HashMap K (List (Note O)) S → HashMap K (List (Note O)) S → Type 0
  KeepsNotes old new = (key : K) (number : ℕ) (outline : O) → HasNote old key number outline → HasNote new key number outline

  -- what was noted of other numbers is
  abbrev pub KeepsOthers : ℕ → HashMap K (List (Note O)) S → HashMap K (List (Note O)) S → Type 0
  KeepsOthers gone old new = (key : K) (number : ℕ) (outline : O) → nat_eq gone number ≡ false
      → HasNote old key number outline → HasNote new key number outline

  -- what was noted under these keys with these outlines is
  abbrev pub KeepsUnder : (K → O → Type 0) → HashMap K (List (Note O)) S → HashMap K (List (Note O)) S → Type 0
  KeepsUnder stays old new = (key : K) (number : ℕ) (outline : O) → stays key outline
      → HasNote old key number outline → HasNote new key number outline

  -- the number is noted under each key of the cover of each region, with the region's outline
  abbrev pub HaveNotes : {R : Type 0} → (R → List K) → (R → O) → ℕ → List R → HashMap K (List (Note O)) S → Type 0
  HaveNotes cover_of outline_of number regions cells = (key : K) (outline : O) → IsUnder cover_of outline_of regions key outline
      → HasNote cells key number outline

  -- nothing is noted that was not, and no list became empty
  pub record TakesBack (old new : HashMap K (List (Note O)) S) : Type 0 where
    pub noted : KeepsNotes new old
    pub no_empty : HasNoEmptyList eq old → HasNoEmptyList eq new

  -- of the number at most such notes are new, of others none, and no list became empty
  pub record AddsAtMost (number : ℕ) (may : K → O → Bool) (old new : HashMap K (List (Note O)) S) : Type 0 where
    pub own : (key : K) (outline : O) → HasNote new key number outline → HasNote old key number outline ⊎ (may key outline ≡ true)
    pub others : KeepsOthers number new old
    pub no_empty : HasNoEmptyList eq old → HasNoEmptyList eq new

  -- under such keys the number is noted for the regions alone
  abbrev pub IsNotedOnlyFor : {R : Type 0} → (R → List K) → (R → O) → ℕ → List R → (K → Bool) → HashMap K (List (Note O)) S → Type 0
  IsNotedOnlyFor cover_of outline_of number regions at cells = (key : K) (outline : O) → at key ≡ true
      → HasNote cells key number outline → covers_with eq same cover_of outline_of regions key outline ≡ true

  -- of the number's notes under such keys only those of the regions are left, and all others stay
  pub record TakesOut {R : Type 0} (cover_of : R → List K) (outline_of : R → O) (number : ℕ) (regions : List R) (at : K → Bool)
      (old new : HashMap K (List (Note O)) S) : Type 0 where
    pub others : KeepsOthers number old new
    pub remaining : KeepsUnder (IsUnder cover_of outline_of regions) old new
    pub gone : IsNotedOnlyFor cover_of outline_of number regions at new

-- the numbers of those notes whose outline passes
abbrev pub numbers_near : {O : Type 0} → (O → Bool) → List (Note O) → List ℕ
numbers_near near notes = map (λ note. note.number) (filter (λ note. near note.outline) notes)

-- what an index keeps: regions, each noted under its cover's keys, and nothing else is noted
pub record IsIndexed {R K O S : Type 0} (is_region : R → Type 0) (cover_of : R → List K) (outline_of : R → O) (eq : K → K → Bool)
    (same : O → O → Bool) (held : List (ℕ × List R)) (cells : HashMap K (List (Note O)) S) : Type 0 where
  pub are_regions : (number : ℕ) (regions : List R) → regions_of held number ≡ Some regions
      → (region : R) → Contains regions region → is_region region
  pub have_notes : (number : ℕ) (regions : List R) → regions_of held number ≡ Some regions
      → HaveNotes eq same cover_of outline_of number regions cells
  pub only_notes : (key : K) (number : ℕ) (outline : O) → HasNote eq same cells key number outline
      → some_covers eq same cover_of outline_of (regions_of held number) key outline ≡ true
  pub no_empty : HasNoEmptyList eq cells
