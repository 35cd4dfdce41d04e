-- The rule of the token that a history is, and what its step tells.
use Rattle.std.specs.Prelude.{ℕ, ◌≡◌, ◌≢◌, ◌<◌, true, List, [], ◌∷◌, length}
use Rattle.logbook.specs.Pages.{Cell, Step, View, Named, Book as TokenBook}
use Rattle.lost_spec.specs.Book.{Edit, Withdraw}
use Rattle.lost_spec.specs.Moment.{stamp_of}

-- the first word is the length of the history. The other two are its seals, which stay 0
abbrev pub IsCounted : List Cell → List Edit → Type 0
IsCounted cells log = cells ≡ (length log, true) ∷ (0, true) ∷ (0, true) ∷ []

-- the first word of a token
abbrev pub word_of : TokenBook → Named
word_of b = record { tracked = true; key = 0; book = b }

-- a word of a token that is a seal: one of its words, and not the first one
pub record IsSeal (w : Named) : Type 0 where
  pub tracked : w.tracked ≡ true
  pub other : 0 < w.key

-- where the step found the length that it expected, the history is now the list, and else it is as long as was found
abbrev pub reached : List Edit → Step Edit → View Edit ℕ → ℕ → View Edit ℕ → Type 0
reached list s v found w = (found ≡ s.old → w.0 ≡ list) × (found ≢ s.old → length w.0 ≡ found)

-- an edit, where a step must name one and asks for none
abbrev pub any_edit : Edit
any_edit = Withdraw (record { source = []; source_id = [] }) (stamp_of [])
