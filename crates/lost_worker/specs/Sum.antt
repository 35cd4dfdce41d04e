-- The sum of the counts of the connections that a worker serves. (Own.)
use Rattle.std.specs.Prelude.{◌≡◌, ℕ, ◌-◌, ◌^◌, min, Bool, List, [], ◌∷◌}
use Rattle.std.specs.List.{sum_by}
use Rattle.lost_lines.specs.declared.counts.Counts.{Counts}
use Rattle.lost_lines.specs.Run.{Cut, Reply}
use Rattle.lost_worker.specs.Lines.{Worker, CountsConnection}
use Rattle.lost_worker.specs.Sources.{Ends}

-- connections with these ends were served, one after another, each once, with these counts
abbrev pub CountsConnections : (ℕ → Bool → Type 0) → (Worker → Cut → Reply → Worker → Type 0) → Worker → List Ends → List Counts → Worker → Type 0
CountsConnections says step old [] [] new = new ≡ old
CountsConnections says step old [] (counts ∷ others) new = ⊥
CountsConnections says step old (ends ∷ more) [] new = ⊥
CountsConnections says step old (ends ∷ more) (counts ∷ others) new =
    (next : Worker) × CountsConnection says step old next ends.unread ends.before counts × CountsConnections says step next more others new

-- a number stays at its greatest value, of 64 bits
abbrev pub capped : ℕ → ℕ
capped n = min n (2 ^ 64 - 1)

-- counts are the sum of others, number by number
pub record IsSum (all : List Counts) (total : Counts) : Type 0 where
  pub lines : total.lines ≡ capped (sum_by (λ counts. counts.lines) all)
  pub long_lines : total.long_lines ≡ capped (sum_by (λ counts. counts.long_lines) all)
  pub memory : total.memory ≡ capped (sum_by (λ counts. counts.memory) all)
  pub faults : total.faults ≡ capped (sum_by (λ counts. counts.faults) all)

-- counts are the sum of those of the connections with these ends, each of which was served once
pub record SumsOver (says : ℕ → Bool → Type 0) (step : Worker → Cut → Reply → Worker → Type 0) (old new : Worker) (ends : List Ends) (total : Counts) : Type 0 where
  pub each : List Counts
  pub served : CountsConnections says step old ends each new
  pub is_sum : IsSum each total

-- counts are the sum of those of the connections that were served
pub record SumsConnections (says : ℕ → Bool → Type 0) (step : Worker → Cut → Reply → Worker → Type 0) (old new : Worker) (total : Counts) : Type 0 where
  pub connections : List Ends
  pub sums : SumsOver says step old new connections total
