-- What is said of lines, by the outcomes of a replay of them. (Own.)
use Rattle.std.specs.Prelude.{◌≡◌, ◌≢◌, ℕ, ◌+◌, ◌-◌, ◌^◌, min, List, [], ◌∷◌, ◌++◌, All, codes, decimal}
use Rattle.lost_spec.specs.Text.{Text}
use Rattle.lost_writing.specs.DeskReplies.{refusal_name}
use Rattle.lost_replay.specs.declared.outcome.Outcome.{Outcome}
use Rattle.lost_replay.specs.declared.outcome.Outcome.TheVariants.{Answered, Staged, Committed, Refused, BadRequest, Unjudged}

-- the number that is said of a line: past the greatest number of 64 bits, which no turns reach, it stays
abbrev pub line_number : ℕ → ℕ
line_number n = min n (2 ^ 64 - 1)

-- "line 12: "
abbrev pub line_front : ℕ → Text
line_front number = codes "line " ++ decimal number ++ codes ": "

-- "9 BadRegion"
abbrev pub code_label : ℕ → Text
code_label code = decimal code ++ codes " " ++ refusal_name code

-- a line of text that begins so, and then has a cause; its only byte 10 is at its end
pub record IsHeaded (head said : Text) : Type 0 where
  pub cause : Text
  pub unbroken : All (λ b. b ≢ 10) cause
  pub is : said ≡ head ++ cause ++ 10 ∷ []

-- what is said of the line with this number: nothing where it is taken; else its number, and why
abbrev pub IsSaid : ℕ → Outcome → Text → Type 0
IsSaid number Answered said = said ≡ []
IsSaid number (Staged pending) said = said ≡ []
IsSaid number (Committed edition) said = said ≡ []
IsSaid number (Refused code) said = IsHeaded (line_front number ++ code_label code) said
IsSaid number BadRequest said = IsHeaded (line_front number ++ codes "badRequest") said
IsSaid number Unjudged said = IsHeaded (line_front number ++ codes "internalError") said

-- what is said of lines, one after another, where so many came before them
abbrev pub AreSaid : ℕ → List Outcome → Text → Type 0
AreSaid before [] said = said ≡ []
AreSaid before (outcome ∷ outcomes) said =
    (first : Text) × (rest : Text) × (said ≡ first ++ rest) × IsSaid (line_number (before + 1)) outcome first × AreSaid (before + 1) outcomes rest
