-- Which kinds of keys are marked (own).
use Rattle.std.specs.Prelude.{◌≡◌, ℕ, Bool, true, false, List, All, get_or}

-- whether the flag of the kind is set
abbrev pub has_kind : List Bool → ℕ → Bool
has_kind kinds kind = get_or kinds kind false

-- what was marked is
abbrev pub KeepsKinds : List Bool → List Bool → Type 0
KeepsKinds old new = (kind : ℕ) → has_kind old kind ≡ true → has_kind new kind ≡ true

-- the kind of each of the keys is marked
abbrev pub HasKindsOf : {K : Type 0} → (K → ℕ) → List Bool → List K → Type 0
HasKindsOf kind_of kinds keys = All (λ key. has_kind kinds (kind_of key) ≡ true) keys

-- a region, and the kind of each key of its cover is marked
pub record IsMarked {R K : Type 0} (is_region : R → Type 0) (cover_of : R → List K) (kind_of : K → ℕ) (kinds : List Bool) (region : R) : Type 0 where
  pub lawful : is_region region
  pub marked : HasKindsOf kind_of kinds (cover_of region)
