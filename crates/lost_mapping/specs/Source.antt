-- How a source is kept.
use Rattle.std.specs.Prelude.{◌≡◌, IsTrue}
use Rattle.lost_spec.specs.Text.{Text, lowered}
use Rattle.lost_spec.specs.Mapping.{is_source}

-- the text is a source, and in lower case
pub record IsLowerSource (text : Text) : Type 0 where
  pub well_formed : IsTrue (is_source text)
  pub lower : lowered text ≡ text
