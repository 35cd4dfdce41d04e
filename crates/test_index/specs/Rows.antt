-- What the index of a row holds. (Own.)
use Rattle.std.specs.Prelude.{◌≡◌, ℕ, List, [], ◌∷◌, length}

module _ {R : Type 0} where
  -- numbers 1 and 2, and of these number 1 with one region
  abbrev pub HoldsTwo : List (ℕ × List R) → Type 0
  HoldsTwo held = (first : List R) × (second : List R) × (held ≡ (1, first) ∷ (2, second) ∷ []) × (length first ≡ 1)

  -- number 1 alone, with two regions
  abbrev pub HoldsOne : List (ℕ × List R) → Type 0
  HoldsOne held = (regions : List R) × (held ≡ (1, regions) ∷ []) × (length regions ≡ 2)
