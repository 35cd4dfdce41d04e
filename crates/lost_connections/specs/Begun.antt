-- A line that is begun, and the lines of bytes that came. (Own.)
use Rattle.std.specs.Prelude.{◌≡◌, ◌≢◌, ◌+◌, Bool, true, false, List, [], take, All}
use Rattle.lost_spec.specs.Text.{Text}
use Rattle.lost_lines.specs.Cutting.{newline, line_limit, cut, ended_lines, lines_of}

-- a line is begun: it has no byte 10, and so many of its bytes are kept that it is seen whether it is over the limit
pub record IsBegun (kept piece : Text) : Type 0 where
  pub is_open : All (λ b. b ≢ newline) piece
  pub front : kept ≡ take (line_limit + 1) piece

-- the lines of bytes and what is begun behind them: a last piece is a line only where the input has ended
abbrev pub Splits : Bool → Text → List Text → Text → Type 0
Splits false bytes lines rest = cut bytes ≡ (lines, rest)
Splits true bytes lines rest = (lines ≡ lines_of bytes) × (rest ≡ [])

-- the lines of bytes: a last piece is a line only where the input has ended
abbrev pub lines_at : Bool → Text → List Text
lines_at false bytes = ended_lines bytes
lines_at true bytes = lines_of bytes
