-- What the bytes of a journal say. It is a file of desk lines in which each commit's line ends in a gate, its last byte. (Own format.)
use Rattle.std.specs.Prelude.{◌≡◌, ◌≢◌, ◌&&◌, not, ℕ, ◌+◌, ◌-◌, Bool, true, false, nat_eq, ◌==◌, List, [], ◌∷◌, ◌++◌, length, take, drop, slice_index, All, codes}
use Rattle.std.specs.List.{starts_with}
use Rattle.lost_spec.specs.Text.{Text}
use Rattle.lost_lines.specs.Cutting.{newline, ended_lines, last_piece}

-- a gate that is closed, a space: nothing behind it counts; and one that is open, a tab
abbrev pub closed : ℕ
closed = 32

abbrev pub opened : ℕ
opened = 9

-- whether a line is a commit's, by how it begins
abbrev pub is_commit : Text → Bool
is_commit line = starts_with nat_eq line (codes "{\"commit\":")

-- the last byte of a line
abbrev pub gate_of_line : Text → ℕ
gate_of_line line = slice_index line (length line - 1)

-- a reader goes on behind a line, unless it is a commit's whose gate is not open
abbrev pub is_passed : Text → Bool
is_passed line = not (is_commit line && not (gate_of_line line == opened))

-- what is kept, up to the gate of its last commit
pub record IsBody (body : Text) : Type 0 where
  pub passed : All (λ line. is_passed line ≡ true) (ended_lines body)
  pub last : is_commit (last_piece body) ≡ true

-- whole lines, none of them a commit's
pub record AreEdits (bytes : Text) : Type 0 where
  pub whole : last_piece bytes ≡ []
  pub edits : All (λ line. is_commit line ≡ false) (ended_lines bytes)

-- a body, and behind it a gate and the byte 10
abbrev pub with_gate : Text → ℕ → Text
with_gate body gate = body ++ gate ∷ newline ∷ []

-- a body with one commit more: its edits, and its line up to the gate
abbrev pub with_commit : Text → Text → Text → Text
with_commit body edits commit = with_gate body opened ++ (edits ++ commit)

-- so the front of a file: a body, and this gate
abbrev pub HasGate : ℕ → Text → Text → Type 0
HasGate gate file body = take (length body + 2) file ≡ with_gate body gate

-- a file keeps a body: that, a closed gate, and then whatever a crash has left
abbrev pub Keeps : Text → Text → Type 0
Keeps file body = HasGate closed file body

-- damage: the gate behind a body is neither open nor closed
pub record IsTornAfter (file body : Text) : Type 0 where
  pub gate : ℕ
  pub not_closed : gate ≢ closed
  pub not_open : gate ≢ opened
  pub stands : HasGate gate file body
