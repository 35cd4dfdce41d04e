-- What is against a line, by the outcome of a replay's answer to it. (Own.)
use Rattle.std.specs.Prelude.{Bool, true, false, List, [], ◌∷◌}
use Rattle.lost_spec.specs.Text.{Text}
use Rattle.lost_lines.specs.Run.{Reply}
use Rattle.lost_replay.specs.Outcome.{IsOutcomeOf}
use Rattle.lost_replay.specs.declared.outcome.Outcome.{Outcome}
use Rattle.lost_replay.specs.declared.outcome.Outcome.TheVariants.{Refused, BadRequest, Unjudged}

abbrev pub is_refused : Outcome → Bool
is_refused (Refused code) = true
is_refused _ = false

abbrev pub is_bad_request : Outcome → Bool
is_bad_request BadRequest = true
is_bad_request _ = false

abbrev pub is_unjudged : Outcome → Bool
is_unjudged Unjudged = true
is_unjudged _ = false

-- each outcome is that of its line and of the reply to it
abbrev pub AreOutcomes : List Text → List Reply → List Outcome → Type 0
AreOutcomes [] [] [] = Unit {0}
AreOutcomes [] [] (outcome ∷ outcomes) = ⊥
AreOutcomes [] (reply ∷ replies) outcomes = ⊥
AreOutcomes (line ∷ lines) [] outcomes = ⊥
AreOutcomes (line ∷ lines) (reply ∷ replies) [] = ⊥
AreOutcomes (line ∷ lines) (reply ∷ replies) (outcome ∷ outcomes) = IsOutcomeOf outcome line reply.text × AreOutcomes lines replies outcomes
