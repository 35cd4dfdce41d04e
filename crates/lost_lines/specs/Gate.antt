-- Which lines a gate lets through. (Own.)
use Rattle.std.specs.Prelude.{◌≡◌, ◌≢◌, ◌<◌, ◌≤◌, ℕ, ◌+◌, Bool, true, false, ◌++◌, ◌∷◌, [], All}
use Rattle.lost_spec.specs.Text.{Text}
use Rattle.lost_lines.specs.Cutting.{newline}
use Rattle.lost_lines.specs.Run.{Cut, Reply}

-- the gate let through each line from 1 to this number
abbrev pub LetThrough : (ℕ → Bool → Type 0) → ℕ → Type 0
LetThrough says count = (line : ℕ) → 0 < line → line ≤ count → says line true

-- one line more is answered, which the gate let through; how many were answered stands beside what answers
abbrev pub Through : {State : Type 0} → (ℕ → Bool → Type 0) → (State → Cut → Reply → State → Type 0) → ℕ × State → Cut → Reply → ℕ × State → Type 0
Through says step old cut reply new = (new.0 ≡ old.0 + 1) × says new.0 true × step old.1 cut reply new.1

-- bytes that are left begin with the end of a line that may be answered, and the gate refused it
pub record IsHeldAt (says : ℕ → Bool → Type 0) (answered most : ℕ) (left : Text) : Type 0 where
  pub room : answered < most
  pub refused : says (answered + 1) false
  pub line : Text
  pub others : Text
  pub unbroken : All (λ b. b ≢ newline) line
  pub splits : left ≡ (line ++ newline ∷ []) ++ others
