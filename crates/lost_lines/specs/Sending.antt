-- What becomes of texts on their way to an output.
use Rattle.std.specs.Prelude.{◌≡◌, ◌||◌, ◌++◌, Option, Result, is_err, IfErr, OnOk, OnErr}
use Rattle.std.specs.Io.KnownBytes.{Appends}
use Rattle.lost_spec.specs.Text.{Text}
use Rattle.lost_lines.specs.declared.watched.Watched.{Watched}
use Rattle.lost_lines.specs.declared.fault.ServeError.{ServeError}
use Rattle.lost_lines.specs.declared.fault.ServeError.TheVariants.{Write}
use Rattle.lost_lines.specs.Stream.{AppendsFront}
use Rattle.lost_lines.specs.Watched.{has_failed}

-- a text is added to what is gathered for an output, and a front of that is sent
pub record Sends (before : Option Text) (gathered : Text) (after : Option Text) (left : Text) (text : Text) : Type 0 where
  pub sent : Text
  pub appended : Appends before after sent
  pub whole : gathered ++ text ≡ sent ++ left

-- a text is sent whole, or at a fault a front of it
pub record SendsUpTo {T : Type 0} (before after : Option Text) (text : Text) (outcome : Result T ServeError) : Type 0 where
  pub ok : OnOk outcome (Appends before after text)
  pub err : OnErr outcome (AppendsFront before after text)

-- the only fault is that of the output, and it sets the output's flag
pub record SetsFlag {W T : Type 0} (old new : Watched W) (outcome : Result T ServeError) : Type 0 where
  pub flag : has_failed new ≡ (has_failed old || is_err outcome)
  pub only : IfErr outcome (λ fault. fault ≡ Write)
