-- What a source of connections hands over. (Own.)
use Rattle.std.specs.Prelude.{◌≡◌, List, [], ◌∷◌, Option, Some, None}
use Rattle.lost_spec.specs.Text.{Text}
use Rattle.lost_worker.specs.declared.connection.Connection.{Connection}

-- what a call hands over, by what was coming before it and after it: where that is told, the first of it, and nothing exactly where nothing is coming
abbrev pub HandsOver : {C : Type 0} → Option (List C) → Option C → Option (List C) → Type 0
HandsOver None given later = Unit {0}
HandsOver (Some []) given later = (given ≡ None) × (later ≡ Some [])
HandsOver (Some (first ∷ others)) given later = (given ≡ Some first) × (later ≡ Some others)

-- the two ends of a connection: what is left to read, and what the output holds, as far as that is known
pub record Ends : Type 0 where
  pub unread : Option Text
  pub before : Option Text

abbrev pub ends_of : {I O : Type 0} → (I → Option Text) → (O → Option Text) → Connection I O → Ends
ends_of remaining contents connection = record { unread = remaining connection.input; before = contents connection.output }
