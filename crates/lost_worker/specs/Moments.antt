-- What moments are given. (Own.)
use Rattle.std.specs.Prelude.{◌≡◌, List, [], ◌∷◌}
use Rattle.lost_spec.specs.Moment.{Instant}

-- a moment is given: the first of those that are told, and the others are told then; where none is told, none is from then on
abbrev pub Gives : List Instant → Instant → List Instant → Type 0
Gives [] given left = left ≡ []
Gives (next ∷ rest) given left = (given ≡ next) × (left ≡ rest)
