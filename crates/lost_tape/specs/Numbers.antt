-- Whole numbers in decimal.
use Rattle.std.specs.Prelude.{◌≡◌, ◌^◌, ◌<◌, ◌++◌, ℤ}
use Rattle.std.specs.Fmt.{signed_decimal}
use lib.Signed.{mag}
use Rattle.lost_spec.specs.Text.{Text}

-- a text begins with this whole number in decimal, and goes on with the rest
pub record IsNumberBefore (text : Text) (value : ℤ) (rest : Text) : Type 0 where
  pub begins : text ≡ signed_decimal value ++ rest
  pub small : mag value < 2 ^ 63
