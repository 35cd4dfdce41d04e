-- Lists of numbers, by the things that they are listed under (own).
use Rattle.std.specs.Prelude.{◌≡◌, ◌≢◌, ℕ, true, false, Bool, Option, List, [], IfSome, unwrap_or, nat_eq, String}
use Rattle.std.specs.HashMap.{HashMap, get, get_by_text}
use Rattle.std.specs.List.{list_any}
use Rattle.lost_spec.specs.Text.{Text}
use Rattle.lost_spec.specs.Book.{Identity, same_identity}

-- the number stands in the list
abbrev pub Stands : ℕ → List ℕ → Type 0
Stands number numbers = list_any (nat_eq number) numbers ≡ true

-- the number does not stand in the list
abbrev pub Lacks : ℕ → List ℕ → Type 0
Lacks number numbers = list_any (nat_eq number) numbers ≡ false

-- the number is not in the list, where there is one, and no list is empty
abbrev pub IsUnlisted : ℕ → Option (List ℕ) → Type 0
IsUnlisted number list = IfSome list (λ numbers. Lacks number numbers × (numbers ≢ []))

-- the same numbers stand in two lists
abbrev pub HaveTheSame : List ℕ → List ℕ → Type 0
HaveTheSame old new = (number : ℕ) → list_any (nat_eq number) new ≡ list_any (nat_eq number) old

-- all other numbers that stood in a list do
abbrev pub KeepsOthersIn : ℕ → List ℕ → List ℕ → Type 0
KeepsOthersIn gone old new = (number : ℕ) → nat_eq gone number ≡ false → Stands number old → Stands number new

module _ {Thing : Type 0} where
  -- all that was listed is
  abbrev pub KeepsLists : (Thing → List ℕ) → (Thing → List ℕ) → Type 0
  KeepsLists old new = (thing : Thing) (number : ℕ) → Stands number (old thing) → Stands number (new thing)

  -- all that was listed of other numbers is
  abbrev pub KeepsOtherNumbers : ℕ → (Thing → List ℕ) → (Thing → List ℕ) → Type 0
  KeepsOtherNumbers gone old new =
      (thing : Thing) (number : ℕ) → nat_eq gone number ≡ false → Stands number (old thing) → Stands number (new thing)

  -- all that was listed under a thing is
  abbrev pub KeepsUnder : Thing → (Thing → List ℕ) → (Thing → List ℕ) → Type 0
  KeepsUnder thing old new = (number : ℕ) → Stands number (old thing) → Stands number (new thing)

-- the numbers under a text; none where there is no list
abbrev pub under_text : {A S : Type 0} → HashMap (String A) (List ℕ) S → Text → List ℕ
under_text lists text = unwrap_or (get_by_text lists text) []

-- the numbers under a key of an equality; none where there is no list
abbrev pub under : {K S : Type 0} → (K → K → Bool) → HashMap K (List ℕ) S → K → List ℕ
under eq lists key = unwrap_or (get eq lists key) []

-- the numbers under an identity; none where there is no list
abbrev pub under_identity : {S : Type 0} → HashMap Identity (List ℕ) S → Identity → List ℕ
under_identity lists identity = under same_identity lists identity
