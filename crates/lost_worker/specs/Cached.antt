-- What a cache of places keeps, and which capacities it may have. (Own.)
use Rattle.std.specs.Prelude.{◌≡◌, ℕ, ◌≤◌, List, Contains}
use Rattle.lost_spec.specs.Holders.{Entry}
use Rattle.lost_location.specs.Place.{place_of}
use Rattle.lost_desk.specs.Sets.{entry}
use Rattle.lost_worker.specs.declared.place_cache.Kept.{Kept}

-- the entry of what is kept
abbrev pub entry_of : Kept → Entry
entry_of kept = entry kept.edition (place_of kept.place) kept.set.items

-- an entry is that of a pair of the cache
abbrev pub IsKeptIn : List (ℕ × Kept) → Entry → Type 0
IsKeptIn pairs e = (hash : ℕ) × (kept : Kept) × Contains pairs (hash, kept) × (e ≡ entry_of kept)

-- a cache has from 1 to 65,536 places
pub record IsCapacity (capacity : ℕ) : Type 0 where
  pub some : 1 ≤ capacity
  pub bounded : capacity ≤ 65536
