-- What stands under a number in a list of (number, regions).
use Rattle.std.specs.Prelude.{◌≡◌, ℕ, false, List, ◌∷◌, ◌++◌, nat_eq}
use Rattle.std.specs.List.{AllByRecursion}

module _ {R : Type 0} where
  -- none of the numbers of the list is this one
  abbrev pub IsAbsent : ℕ → List (ℕ × List R) → Type 0
  IsAbsent number held = AllByRecursion (λ e. nat_eq number e.0 ≡ false) held

  -- the number is held with these regions, and once
  pub record IsHeldWith (number : ℕ) (regions : List R) (held : List (ℕ × List R)) : Type 0 where
    pub before : List (ℕ × List R)
    pub behind : List (ℕ × List R)
    pub split : held ≡ before ++ (number, regions) ∷ behind
    pub not_before : IsAbsent number before
    pub not_behind : IsAbsent number behind
