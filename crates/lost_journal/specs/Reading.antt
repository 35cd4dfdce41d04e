-- How a journal is read from its beginning. (Own.)
use Rattle.std.specs.Prelude.{◌≡◌, ◌≤◌, ℕ, ◌+◌, ◌-◌, [], ◌∷◌, ◌++◌, length, take, drop, All, true}
use Rattle.lost_spec.specs.Text.{Text}
use Rattle.lost_lines.specs.Cutting.{newline, ended_lines, last_piece}
use Rattle.sqlite_disk.specs.Disk.{Only}
use Rattle.lost_journal.specs.Format.{is_passed, IsBody, closed, Keeps, with_gate}
use Rattle.lost_journal.specs.State.{body_in}

-- a buffer has bytes of the file from an offset on, and a crash leaves just that file
pub record IsBuffered (seen : Text) (may_leave : Text → Type 0) (len start : ℕ) (buffer : Text) : Type 0 where
  pub whole : len ≡ length seen
  pub only : Only seen may_leave
  pub holds : take (length buffer) (drop start seen) ≡ buffer

-- whole lines were read, and a reader goes on behind each of them
pub record IsPassing (read : Text) : Type 0 where
  pub whole : last_piece read ≡ []
  pub passed : All (λ line. is_passed line ≡ true) (ended_lines read)

-- what is kept ends at the first closed gate
pub record IsFound (seen : Text) (kept : ℕ) : Type 0 where
  pub body : IsBody (body_in seen kept)
  pub gate : Keeps seen (body_in seen kept)
