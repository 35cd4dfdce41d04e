-- The tree of a line, by what reading it gave.
use Rattle.std.proofs.Common.{◌≡◌, Bool, true, false, None, cond, refl}
use Rattle.std.proofs.lemmas.Str.{IsUtf8-from_is_utf8}
use Rattle.std.specs.Str.{IsUtf8, is_utf8}
use Rattle.serde_json.specs.Read.{read}
use Rattle.lost_spec.specs.Text.{Text}
use Rattle.lost_reading.specs.Members.{tree_of}

unless_utf8 : (line : Text) (test : Bool) → is_utf8 line ≡ test → (IsUtf8 line → read line ≡ None) → cond test (read line) None ≡ None
unless_utf8 line true is h = h (IsUtf8-from_is_utf8 line is)
unless_utf8 line false is h = refl

pub tree_of-None : (line : Text) → (IsUtf8 line → read line ≡ None) → tree_of line ≡ None
unfolding tree_of
tree_of-None line h = unless_utf8 line (is_utf8 line) refl h
