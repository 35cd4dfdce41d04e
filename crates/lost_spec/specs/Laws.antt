-- Words of the laws above the definitions: parts of a list, and lists without repeats.
use Rattle.std.specs.Prelude.{◌≡◌, List, [], ◌∷◌, ◌++◌, ⊤, ◌⊎◌}
use Rattle.std.specs.List.{AllByRecursion}

-- `Picks P xs ys`: ys are the things of xs of which P holds, in their order, each as often as it stands in xs
pub data Picks {Thing : Type 0} (P : Thing → Type 0) : List Thing → List Thing → Type 0 where
  PicksNone : Picks P [] []
  PicksIt : {x : Thing} {xs ys : List Thing} → P x → Picks P xs ys → Picks P (x ∷ xs) (x ∷ ys)
  PassesIt : {x : Thing} {xs ys : List Thing} → ¬ P x → Picks P xs ys → Picks P (x ∷ xs) ys

-- R holds of each thing of a list and each later one
abbrev pub EachWithLater : {Thing : Type 0} → (Thing → Thing → Type 0) → List Thing → Type 0
EachWithLater R [] = ⊤
EachWithLater R (x ∷ xs) = AllByRecursion (R x) xs × EachWithLater R xs

-- P holds of some thing of the list
abbrev pub SomeByRecursion : {Thing : Type 0} → (Thing → Type 0) → List Thing → Type 0
SomeByRecursion P [] = ⊥
SomeByRecursion P (x ∷ xs) = P x ⊎ SomeByRecursion P xs

-- xs begins with front
abbrev pub BeginsWith : {Thing : Type 0} → List Thing → List Thing → Type 0
BeginsWith {Thing} xs front = (rest : List Thing) × (xs ≡ front ++ rest)
