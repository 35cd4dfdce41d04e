-- Which texts are modes of a socket's file. (Own.)
use Rattle.std.specs.Prelude.{ℕ, List, ◌≤◌, length}
use Rattle.std.specs.Str.Parse.{IsNumeral, digits_value}

-- one to four octal digits, of at most 0777
pub record IsMode (text : List ℕ) : Type 0 where
  pub octal : IsNumeral 8 text
  pub four : length text ≤ 4
  pub rights : digits_value 8 text ≤ 0o777
