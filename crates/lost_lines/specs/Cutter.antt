-- What a `Cutter` has of the line that is being read.
use Rattle.std.specs.Prelude.{◌≡◌, ◌≢◌, ◌≤◌, ◌+◌, ℕ, Bool, false, length, min, All}
use Rattle.lost_spec.specs.Text.{Text}
use Rattle.lost_lines.specs.Cutting.{line_limit, newline}
use Rattle.lost_lines.specs.declared.cutter.Cutter.{Cutter}

-- how many bytes of the line were read, up to one more than the limit
abbrev pub count_of : Cutter → ℕ
count_of c = c.count

-- how many bytes are kept
abbrev pub kept_count : Cutter → ℕ
kept_count c = length c.line.items

-- memory was refused while the line was read
abbrev pub was_refused : Cutter → Bool
was_refused c = c.is_refused

-- the line so far is this piece: it has no byte 10, its length is known, and it is kept where it is within the limit and no memory was refused
pub record IsHolding (c : Cutter) (piece : Text) : Type 0 where
  pub is_open : All (λ b. b ≢ newline) piece
  pub counted : c.count ≡ min (length piece) (line_limit + 1)
  pub kept : c.is_refused ≡ false → length piece ≤ line_limit → c.line.items ≡ piece
