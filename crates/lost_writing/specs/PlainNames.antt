-- Names that stand in JSON as they are. (Own.)
use Rattle.std.specs.Prelude.{◌≡◌, ◌≤◌, [], ◌∷◌, ◌++◌, length}
use Rattle.serde_json.specs.Data.{string}
use Rattle.serde_json.specs.Written.{compact_text}
use Rattle.lost_spec.specs.Text.{Text}

-- a name in which nothing is escaped, of at most 15 bytes
pub record IsPlainName (name : Text) : Type 0 where
  pub unescaped : compact_text (string name) ≡ 34 ∷ (name ++ 34 ∷ [])
  pub short : length name ≤ 15
