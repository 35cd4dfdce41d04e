-- Texts by their names. (Own.)
use Rattle.std.specs.Prelude.{List, [], ◌∷◌}
use Rattle.std.specs.Borrow.{Bor}
use Rattle.serde_json.specs.Data.{string, Members, no_members, member}
use Rattle.lost_spec.specs.Text.{Text}

-- the members of entries, each a name and a text
abbrev pub named_members : List (Bor Text × Bor Text) → Members
named_members [] = no_members
named_members (entry ∷ rest) = member entry.0.now (string entry.1.now) (named_members rest)
