-- Mappings beside their numbers, as contracts see them (own).
use Rattle.std.specs.Prelude.{ℕ, List, [], ◌∷◌, ◌++◌, slice_set}
use Rattle.std.specs.List.{remove}
use Rattle.lost_spec.specs.Mapping.{Mapping}

-- the numbers, and the mappings at the same positions
pub record Stored : Type 0 where
  pub numbers : List ℕ
  pub mappings : List Mapping

abbrev pub nothing_stored : Stored
nothing_stored = record { numbers = []; mappings = [] }

-- one more, behind all
abbrev pub with_last : ℕ → Mapping → Stored → Stored
with_last number m k = record { numbers = k.numbers ++ number ∷ []; mappings = k.mappings ++ m ∷ [] }

-- another mapping at a position, under the same number
abbrev pub with_mapping_at : ℕ → Mapping → Stored → Stored
with_mapping_at position m k = record { numbers = k.numbers; mappings = slice_set k.mappings position m }

-- without the position
abbrev pub without_position : ℕ → Stored → Stored
without_position position k = record { numbers = remove k.numbers position; mappings = remove k.mappings position }
