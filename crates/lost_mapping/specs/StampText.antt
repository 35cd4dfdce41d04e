-- The parts of a stamp's text, under names that stay closed until a proof opens them.
use Rattle.std.specs.Prelude.{ℕ, Bool, Option, take, drop}
use lib.Pointwise.{pointwise}
use Rattle.lost_spec.specs.Text.{Text}
use Rattle.lost_spec.specs.Moment.{number_at, stamp_shape, fits_shape, read_end}

-- the number that stands in the bytes from one place up to another
unfoldable pub number_in : Text → ℕ → ℕ → ℕ
number_in text from to = number_at text from to

-- the first 19 bytes are digits and signs in the places of a stamp's
unfoldable pub has_shape : Text → Bool
has_shape text = pointwise fits_shape stamp_shape (take 19 text)

-- the nanoseconds that follow the whole second
unfoldable pub end_of : Text → Option ℕ
end_of text = read_end (drop 19 text)
