-- What an indexed book keeps: each mapping is noted, and its regions are in the indexes; a note more does no harm (own).
use Rattle.std.specs.Prelude.{◌≡◌, ℕ, ◌+◌, ◌*◌, ◌<◌, ◌≤◌, Bool, List, length}
use Rattle.std.specs.List.{AllByRecursion, zip}
use Rattle.std.specs.List.Sorted.{IsStrictlySortedBy}
use Rattle.std.specs.Ordering.{nat_cmp}
use Rattle.lost_spec.specs.Mapping.{Mapping}
use Rattle.lost_spec.specs.Book.{Book}
use Rattle.lost_book.specs.Bounds.{IsCounted}
use Rattle.lost_tables.specs.declared.tables.Tables.{Tables}
use Rattle.lost_tables.specs.Lookup.{IsFullyListed}
use Rattle.lost_regions.specs.Regions.{Regions, regions_of}
use Rattle.lost_routing.specs.Classes.{AreTold}

-- each mapping is noted under its number
abbrev pub AreFullyListed : Tables → List (ℕ × Mapping) → Type 0
AreFullyListed tables rows = AllByRecursion (λ e. IsFullyListed tables e.1 e.0) rows

-- the numbers rise, each mapping is noted under its number, and the indexes have its regions under it
pub record IsStore (numbers : List ℕ) (mappings : List Mapping) (tables : Tables) (regions : Regions) : Type 0 where
  pub paired : length numbers ≡ length mappings
  pub rising : IsStrictlySortedBy nat_cmp numbers
  pub listed : AreFullyListed tables (zip numbers mappings)
  pub indexed : regions ≡ regions_of (zip numbers mappings)

-- and each number tells the class of its mapping's service, unless that is a stray one
pub record IsClassed (numbers : List ℕ) (mappings : List Mapping) (tables : Tables) (regions : Regions) (strays : List Bool) : Type 0 where
  pub store : IsStore numbers mappings tables regions
  pub told : AreTold strays (zip numbers mappings)

-- the number is above all
abbrev pub IsNew : ℕ → List ℕ → Type 0
IsNew number numbers = AllByRecursion (λ k. k < number) numbers

-- the number is one of the 64 that an edit may give its mapping
pub record IsOfEdit (number edits : ℕ) : Type 0 where
  pub low : edits * 64 ≤ number
  pub high : number < (edits + 1) * 64

-- a book's edits are within its limits, and a mapping's number is of the edits before it was published
pub record IsRouted (b : Book) (numbers : List ℕ) : Type 0 where
  pub counted : IsCounted b
  pub below : IsNew (b.edits * 64) numbers

-- what was above all is still
abbrev pub StaysBelow : List ℕ → List ℕ → Type 0
StaysBelow old new = (number : ℕ) → IsNew number old → IsNew number new
