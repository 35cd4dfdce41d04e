-- How the bytes of a stream are cut into lines. (Own.)
use Rattle.std.specs.Prelude.{ℕ, Bool, cond, List, [], ◌∷◌, ◌++◌, length, nat_lt, ◌==◌}
use Rattle.lost_spec.specs.Text.{Text}

-- the byte at the end of a line
abbrev pub newline : ℕ
newline = 10

-- the most bytes of a line, its last byte 10 not counted
abbrev pub line_limit : ℕ
line_limit = 1048576

-- a byte put at the front of the first ended line, or of the last piece where no line is ended
abbrev pub with_byte : ℕ → List Text → Text → List Text × Text
with_byte b [] last = ([], b ∷ last)
with_byte b (line ∷ lines) last = ((b ∷ line) ∷ lines, last)

-- the lines that a byte 10 ends, each without it, and the piece after the last of them
abbrev pub cut : Text → List Text × Text
cut [] = ([], [])
cut (b ∷ rest) = cond (b == newline) ([] ∷ (cut rest).0, (cut rest).1) (with_byte b (cut rest).0 (cut rest).1)

-- the lines that a byte 10 ends
abbrev pub ended_lines : Text → List Text
ended_lines bytes = (cut bytes).0

-- what stands after the last byte 10
abbrev pub last_piece : Text → Text
last_piece bytes = (cut bytes).1

-- a last piece without a byte 10 is a line where it has a byte
abbrev pub piece_lines : Text → List Text
piece_lines [] = []
piece_lines (b ∷ rest) = (b ∷ rest) ∷ []

-- the lines of a stream
abbrev pub lines_of : Text → List Text
lines_of bytes = ended_lines bytes ++ piece_lines (last_piece bytes)

-- a line is over the limit
abbrev pub is_long : Text → Bool
is_long line = nat_lt line_limit (length line)
