-- Positions as decimal text: a latitude and a longitude in degrees, such as `-33.85 151.2`. (Own.)
use Rattle.std.specs.Prelude.{ℕ, ◌+◌, ◌-◌, ◌*◌, ◌^◌, not, ◌&&◌, if◌then◌else◌, Bool, [], ◌∷◌, take, drop, length, Option, Some, None, option_map, option_and_then, ℤ, pos, neg_ℤ, ◌==◌}
use Rattle.std.specs.List.{list_all, prefix_len}
use Rattle.lost_spec.specs.Text.{Text, is_digit, is_between}
use Rattle.lost_spec.specs.Moment.{digits_value}

abbrev pub is_space : ℕ → Bool
is_space b = b == 32

-- a byte of a word: any but a space
abbrev pub is_word_byte : ℕ → Bool
is_word_byte b = not (is_space b)

-- the bytes that a text begins with and that pass a test, and what follows them
abbrev pub front : (ℕ → Bool) → Text → Text
front test text = take (prefix_len test text) text

abbrev pub behind : (ℕ → Bool) → Text → Text
behind test text = drop (prefix_len test text) text

-- one to seven digits
abbrev pub are_decimals : Text → Bool
are_decimals text = is_between 1 7 (length text) && list_all is_digit text

-- the units of 1e-7 degrees that such digits spell: absent digits are zeros
abbrev pub decimals_value : Text → ℕ
decimals_value text = digits_value text * 10 ^ (7 - length text)

-- what follows the whole degrees: nothing, or a dot and one to seven digits
abbrev pub read_decimals : Text → Option ℕ
read_decimals [] = Some 0
read_decimals (b ∷ rest) = if (b == 46) && are_decimals rest then Some (decimals_value rest) else None

-- a number without a sign: one to three digits, and what follows them
abbrev pub read_unsigned : Text → Option ℕ
read_unsigned text =
    if is_between 1 3 (length (front is_digit text))
    then option_map (λ decimals. digits_value (front is_digit text) * 10_000_000 + decimals) (read_decimals (behind is_digit text))
    else None

-- a number in units of 1e-7 degrees: perhaps a hyphen first
abbrev pub read_number : Text → Option ℤ
read_number [] = None
read_number (b ∷ rest) =
    if b == 45 then option_map (λ n. neg_ℤ (pos n)) (read_unsigned rest) else option_map pos (read_unsigned (b ∷ rest))

-- the position that a text spells: two numbers with one or more spaces between them, and nothing else
unfoldable pub decimal : Text → Option (ℤ × ℤ)
decimal text =
    option_and_then (λ lat. option_map (λ lon. (lat, lon)) (read_number (behind is_space (behind is_word_byte text))))
    (read_number (front is_word_byte text))
