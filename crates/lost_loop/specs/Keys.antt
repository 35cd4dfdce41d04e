-- Which connections have no line left, by their keys. (Own.)
use Rattle.std.specs.Prelude.{◌≡◌, ◌≢◌, ℕ, Bool, false, List, slice_get}
use Rattle.std.specs.Option.{option_map_or}

-- the flag of a key; none is no
abbrev pub flag_at : List Bool → ℕ → Bool
flag_at flags key = option_map_or (λ flag. flag) (slice_get flags key) false

-- the flag of one key became so, and all others stay
pub record SetsFlag (old new : List Bool) (key : ℕ) (flag : Bool) : Type 0 where
  pub set : flag_at new key ≡ flag
  pub others : (other : ℕ) → other ≢ key → flag_at new other ≡ flag_at old other
