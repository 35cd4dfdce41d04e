-- What the checks of a text answer, while it may be in any case.
use Rattle.std.specs.Prelude.{ℕ, ◌≡◌, List, length, Option, Some, None, Result, MatchResult}
use Rattle.lost_spec.specs.declared.faults.UrnError.{UrnError}
use Rattle.lost_spec.specs.Text.{Text, lowered}
use Rattle.lost_spec.specs.Service.{labels_fault, split_at_dots}

-- the labels of a text in any case
abbrev pub labels_in : Text → List Text
labels_in text = split_at_dots (lowered text)

-- a check lets pass what has no fault, and else answers its first fault
abbrev pub AnswersFault : {T : Type 0} → Result T UrnError → Option UrnError → Type 0
AnswersFault result fault = MatchResult result (λ _. fault ≡ None) (λ e. fault ≡ Some e)

-- a text is in lower case, and spells so many labels, which are not refused
pub record IsPlain (text : Text) (n : ℕ) : Type 0 where
  pub lowercase : lowered text ≡ text
  pub passed : labels_fault (split_at_dots text) ≡ None
  pub counted : n ≡ length (split_at_dots text)
