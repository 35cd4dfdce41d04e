-- Classes of services, and which of them the numbers of mappings tell (own).
use Rattle.std.specs.Prelude.{◌≡◌, ℕ, ◌+◌, ◌<◌, ◌%◌, ◌||◌, Bool, true, false, List, get_or, take, nat_eq}
use Rattle.std.specs.List.{fold, AllByRecursion}
use Rattle.std.specs.Hash as fed
use Rattle.std.specs.Hash.FoldHasher as folding
use Rattle.lost_spec.specs.Text.{Text}
use Rattle.lost_spec.specs.Service.{Service, service_text}
use Rattle.lost_spec.specs.Mapping.{Mapping}

-- the class of the service of a text: the last six bits of a hash
unfoldable pub class_of : Text → ℕ
class_of text = folding.finish (fold folding.write folding.initial (fed.str text)) % 64

-- whether the flag of the class is set
abbrev pub has_class : List Bool → ℕ → Bool
has_class classes class = get_or classes class false

-- what was marked is
abbrev pub KeepsClasses : List Bool → List Bool → Type 0
KeepsClasses old new = (class : ℕ) → has_class old class ≡ true → has_class new class ≡ true

-- the number tells the class of the mapping's service, or the class is a stray one
abbrev pub is_told : List Bool → ℕ → Mapping → Bool
is_told strays number m =
    nat_eq (number % 64) (class_of (service_text m.service)) || has_class strays (class_of (service_text m.service))

-- the classes of the services of the first labels, up to so many, are marked, and none is a stray one
abbrev pub AreOfChain : Service → List Bool → List Bool → ℕ → Type 0
AreOfChain s strays classes count =
    (k : ℕ) → k < count → (has_class classes (class_of (service_text (take (k + 1) s))) ≡ true) × (has_class strays (class_of (service_text (take (k + 1) s))) ≡ false)

-- each number tells its mapping
abbrev pub AreTold : List Bool → List (ℕ × Mapping) → Type 0
AreTold strays rows = AllByRecursion (λ e. is_told strays e.0 e.1 ≡ true) rows
