-- Mappings beside their numbers (own).
use Rattle.std.specs.Prelude.{ℕ, List, map}
use Rattle.lost_spec.specs.Mapping.{Mapping}

-- the numbers, and the mappings at the same positions
pub record Numbered : Type 0 where
  pub numbers : List ℕ
  pub mappings : List Mapping

-- both of a list of pairs
abbrev pub numbered : List (ℕ × Mapping) → Numbered
numbered pairs = record { numbers = map (λ p. p.0) pairs; mappings = map (λ p. p.1) pairs }
