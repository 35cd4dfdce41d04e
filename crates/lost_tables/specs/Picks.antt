-- Picking the things that pass a test from those that have a number among candidates.
use Rattle.std.specs.Prelude.{◌≡◌, ℕ, ◌<◌, ◌≤◌, Bool, true, false, if◌then◌else◌, List, Option, None, Some, position, slice_get, nat_eq, nat_lt, length}
use Rattle.std.specs.Option.{option_and_then, option_map_or}
use Rattle.std.specs.List.{list_any, slice_index_or}

-- each thing that passes the test has its number among the candidates (own)
abbrev pub Covers : {Thing : Type 0} → (Thing → Bool) → List ℕ → List Thing → List ℕ → Type 0
Covers {Thing} test numbers things candidates =
    (i number : ℕ) (thing : Thing) → slice_get things i ≡ Some thing → slice_get numbers i ≡ Some number
    → test thing ≡ true → list_any (nat_eq number) candidates ≡ true

-- the position, where its thing passes the test
abbrev pub if_passes : {Thing : Type 0} → (Thing → Bool) → List Thing → ℕ → Option ℕ
if_passes test things i = if option_map_or test (slice_get things i) false then Some i else None

-- the position of the thing with a number, where the thing passes the test
abbrev pub passing : {Thing : Type 0} → (Thing → Bool) → List ℕ → List Thing → ℕ → Option ℕ
passing test numbers things number = option_and_then (if_passes test things) (position (nat_eq number) numbers)

-- the numbers in front of a position are below a number
abbrev pub AreBelow : ℕ → List ℕ → ℕ → Type 0
AreBelow number numbers k = (i : ℕ) → i < k → i < length numbers → slice_index_or numbers i 0 < number

-- the numbers from a position on are not
abbrev pub AreAbove : ℕ → List ℕ → ℕ → Type 0
AreAbove number numbers k = (i : ℕ) → k ≤ i → i < length numbers → number ≤ slice_index_or numbers i 0

-- the lesser of two positions, where there are any
abbrev pub lesser : Option ℕ → Option ℕ → Option ℕ
lesser None other = other
lesser (Some one) None = Some one
lesser (Some one) (Some other) = Some (if nat_lt one other then one else other)
