-- Replies on their way to an output. (Own.)
use Rattle.std.specs.Prelude.{◌≡◌, ◌++◌, Option}
use Rattle.std.specs.Io.KnownBytes.{Appends}
use Rattle.lost_spec.specs.Text.{Text}

-- some bytes of a list of replies went to the output, and the others are left
pub record Sent (before after : Option Text) (old new : Text) : Type 0 where
  pub taken : Text
  pub appended : Appends before after taken
  pub splits : old ≡ taken ++ new
