-- Numbered rows in chunks (own).
use Rattle.std.specs.Prelude.{◌≡◌, ℕ, ◌<◌, Bool, true, false, List, [], ◌∷◌, ⊤, nat_lt}
use Rattle.std.specs.List.{flat_map, AllByRecursion}
use Rattle.std.specs.List.Sorted.{IsPartitionPoint}
use Rattle.std.specs.Vec.{vec_items, vec_len}
use Rattle.std.specs.declared.vec.Vec.{Vec}
use Rattle.lost_index.specs.Entries.{IsHeld}

module _ {T : Type 0} where
  -- each number is above those before it
  abbrev pub AreRising : List (ℕ × T) → Type 0
  AreRising [] = ⊤
  AreRising (row ∷ rows) = AllByRecursion (λ later. row.0 < later.0) rows × AreRising rows

  -- the numbers rise, and this one is held
  pub record HasRow (number : ℕ) (rows : List (ℕ × T)) : Type 0 where
    pub rising : AreRising rows
    pub held : IsHeld number rows

  -- whether the last number is below this one; so too where there is none
  abbrev pub ends_below : ℕ → List (ℕ × T) → Bool
  ends_below number [] = true
  ends_below number (row ∷ []) = nat_lt row.0 number
  ends_below number (row ∷ next ∷ rows) = ends_below number (next ∷ rows)

module _ {T A : Type 0} where
  -- the rows of all chunks, in order
  abbrev pub rows_of : List (Vec (ℕ × T) A) → List (ℕ × T)
  rows_of chunks = flat_map vec_items chunks

  -- no chunk is empty
  abbrev pub AreFilled : List (Vec (ℕ × T) A) → Type 0
  AreFilled chunks = AllByRecursion (λ chunk. 0 < vec_len chunk) chunks

  -- the numbers rise, and no chunk is empty
  pub record AreChunks (chunks : List (Vec (ℕ × T) A)) : Type 0 where
    pub rising : AreRising (rows_of chunks)
    pub filled : AreFilled chunks

  -- the chunks in front of a position end below the number, and the others do not
  abbrev pub IsChunkOf : ℕ → List (Vec (ℕ × T) A) → ℕ → Type 0
  IsChunkOf number = IsPartitionPoint (λ chunk. ends_below number (vec_items chunk) ≡ true) (λ chunk. ends_below number (vec_items chunk) ≡ false)
