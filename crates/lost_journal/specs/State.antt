-- Where a journal is on its disk, and what a crash may leave. (Own.)
use Rattle.std.specs.Prelude.{◌≡◌, ◌≤◌, ℕ, ◌+◌, ◌-◌, ◌∷◌, ◌++◌, length, take, drop, slice_index}
use Rattle.lost_spec.specs.Text.{Text}
use Rattle.lost_lines.specs.Cutting.{newline}
use Rattle.lost_journal.specs.declared.gate.Gate.{Gate}
use Rattle.lost_journal.specs.declared.gate.Gate.TheVariants.{Closed, Unsure}
use Rattle.lost_journal.specs.Format.{IsBody, AreEdits, closed, opened, with_gate, with_commit, Keeps}

-- of a file whose first bytes, so many, are kept: what is kept up to its last gate, and what stands behind it
abbrev pub body_in : Text → ℕ → Text
body_in seen kept = take (kept - 2) seen

abbrev pub behind_in : Text → ℕ → Text
behind_in seen kept = drop kept seen

-- what stands behind what is kept, up to an offset
abbrev pub pending_in : Text → ℕ → ℕ → Text
pending_in seen kept end = take (end - kept) (drop kept seen)

-- with all that stands behind it committed
abbrev pub doubtful_in : Text → ℕ → Text
doubtful_in seen kept = with_gate (body_in seen kept) opened ++ take (length (behind_in seen kept) - 2) (behind_in seen kept)

-- the file is this body, a gate, and what stands behind it
abbrev pub IsGated : Text → ℕ → Text → Text → Type 0
IsGated body kept behind file = file ≡ body ++ slice_index file (kept - 2) ∷ newline ∷ behind

-- the last gate is closed, on the disk too
pub record IsClosed (seen : Text) (may_leave : Text → Type 0) (kept : ℕ) : Type 0 where
  pub gate : Keeps seen (body_in seen kept)
  pub leaves : (c : Text) → may_leave c → Keeps c (body_in seen kept)

-- the last gate may be any byte, and a whole commit stands behind it, on the disk too
pub record IsUnsure (seen : Text) (may_leave : Text → Type 0) (kept : ℕ) : Type 0 where
  pub gate : IsGated (body_in seen kept) kept (behind_in seen kept) seen
  pub whole : IsBody (doubtful_in seen kept)
  pub ends : behind_in seen kept ≡ with_gate (take (length (behind_in seen kept) - 2) (behind_in seen kept)) closed
  pub leaves : (c : Text) → may_leave c → IsGated (body_in seen kept) kept (behind_in seen kept) c

-- so many bytes are kept; edits stand behind them up to `before`, and up to `end`; and the file is not longer than `tail`
pub record IsSettled (seen : Text) (may_leave : Text → Type 0) (kept before end tail : ℕ) (gate : Gate) : Type 0 where
  pub least : 2 ≤ kept
  pub first : kept ≤ before
  pub order : before ≤ end
  pub within : end ≤ length seen
  pub fits : length seen ≤ tail
  pub body : IsBody (body_in seen kept)
  pub pending : AreEdits (pending_in seen kept end)
  pub earlier : AreEdits (pending_in seen kept before)
  pub if_closed : gate ≡ Closed → IsClosed seen may_leave kept
  pub if_unsure : gate ≡ Unsure → IsUnsure seen may_leave kept
