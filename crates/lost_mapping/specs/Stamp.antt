-- How a stamp is kept.
use Rattle.std.specs.Prelude.{◌≡◌, IsTrue}
use Rattle.lost_spec.specs.Text.{Text}
use Rattle.lost_spec.specs.Moment.{Instant, is_stamp, moment_of}

-- the text is a stamp, and names this instant
pub record IsStampAt (text : Text) (instant : Instant) : Type 0 where
  pub well_formed : IsTrue (is_stamp text)
  pub named : instant ≡ moment_of text
