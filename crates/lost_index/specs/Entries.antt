-- Lists of (number, regions), and what is asked of them (own).
use Rattle.std.specs.Prelude.{ℕ, ◌<◌, ◌≤◌, Bool, false, if◌then◌else◌, Option, List, [], ◌∷◌, length, map, filter, All, Contains, nat_eq}
use Rattle.std.specs.List.{list_any}
use Rattle.std.specs.Map.{lookup, remove_entry}
use Rattle.std.specs.Option.{option_map_or}

module _ {V : Type 0} where
  -- the numbers, in order
  abbrev pub numbers : List (ℕ × V) → List ℕ
  numbers held = map (λ e. e.0) held

  -- the number is held
  abbrev pub IsHeld : ℕ → List (ℕ × V) → Type 0
  IsHeld number held = Contains (numbers held) number

  -- the number is above all that are held
  abbrev pub IsAbove : ℕ → List (ℕ × V) → Type 0
  IsAbove number held = All (λ e. e.0 < number) held

  -- the list without the number
  abbrev pub without : ℕ → List (ℕ × V) → List (ℕ × V)
  without number held = remove_entry (nat_eq number) held

module _ {R : Type 0} where
  -- the regions of the number, where it is held
  abbrev pub regions_of : List (ℕ × List R) → ℕ → Option (List R)
  regions_of held number = lookup (nat_eq number) held

  -- the regions of the number are at least so many
  abbrev pub HasRegions : ℕ → ℕ → List (ℕ × List R) → Type 0
  HasRegions count number held = (regions : List R) → Contains held (number, regions) → count ≤ length regions

  -- the list with other regions of the number
  abbrev pub with_number : ℕ → (List R → List R) → List (ℕ × List R) → List (ℕ × List R)
  with_number number change [] = []
  with_number number change (e ∷ held) =
      if nat_eq number e.0 then (e.0, change e.1) ∷ held else e ∷ with_number number change held

  -- the numbers with a region that contains the location
  abbrev pub holders : {L : Type 0} → (R → L → Bool) → L → List (ℕ × List R) → List ℕ
  holders holds location held = numbers (filter (λ e. list_any (λ region. holds region location) e.1) held)

  -- whether the number is held, with a region that contains the location
  abbrev pub is_holder : {L : Type 0} → (R → L → Bool) → L → List (ℕ × List R) → ℕ → Bool
  is_holder holds location held number = option_map_or (λ regions. list_any (λ region. holds region location) regions) (regions_of held number) false
