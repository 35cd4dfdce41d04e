-- Chunks of one size, and the list that they make (own).
use Rattle.std.specs.Prelude.{◌≡◌, ℕ, zero, suc, ◌+◌, ◌<◌, ◌≤◌, List, [], ◌∷◌, length, ⊤}
use Rattle.std.specs.List.{flat_map}
use Rattle.std.specs.VecDeque.{deque_items, deque_len, deque_capacity}
use Rattle.std.specs.declared.collections.VecDeque.{VecDeque}

-- how many elements a full chunk has
abbrev pub full : ℕ
full = 512

module _ {T A : Type 0} where
  -- the elements of all chunks, in order
  abbrev pub elements : List (VecDeque T A) → List T
  elements chunks = flat_map deque_items chunks

  -- all chunks but the last are full, and the last is not empty
  abbrev pub AreFilled : List (VecDeque T A) → Type 0
  AreFilled [] = ⊤
  AreFilled (c ∷ []) = (0 < deque_len c) × (deque_len c ≤ full)
  AreFilled (c ∷ d ∷ rest) = (deque_len c ≡ full) × AreFilled (d ∷ rest)

  -- the same, but that the chunk at a position lacks one, and has room for it
  abbrev pub LacksAt : ℕ → List (VecDeque T A) → Type 0
  LacksAt n [] = ⊥
  LacksAt zero (c ∷ []) = (deque_len c < full) × (deque_len c < deque_capacity c)
  LacksAt zero (c ∷ d ∷ rest) = ((deque_len c + 1 ≡ full) × (deque_len c < deque_capacity c)) × AreFilled (d ∷ rest)
  LacksAt (suc n) (c ∷ rest) = (deque_len c ≡ full) × LacksAt n rest

  -- chunks that hold as many elements
  abbrev pub IsTiered : ℕ → List (VecDeque T A) → Type 0
  IsTiered len chunks = (length (elements chunks) ≡ len) × AreFilled chunks
