-- What contracts see of the lines of a file that is being read. (Own.)
use Rattle.std.specs.Prelude.{ℕ, ◌+◌, ◌-◌, length, take, drop, Bool, IsTrue}
use Rattle.lost_spec.specs.Text.{Text}
use Rattle.sqlite_disk.specs.declared.Disk.{Ghosts}
use Rattle.lost_journal.specs.declared.file_lines.FileLines.{FileLines}

module _ {D : Type 0} {g : Ghosts D} where
  -- whether its disk has told the truth so far
  abbrev pub is_clean_lines : FileLines D g → Bool
  is_clean_lines l = g.is_clean l.disk

  abbrev pub IsCleanLines : FileLines D g → Type 0
  IsCleanLines l = IsTrue (g.is_clean l.disk)

  -- its disk
  abbrev pub disk_read : FileLines D g → D
  disk_read l = l.disk

  -- the bytes of the file, its length, where what was read ends, and all up to there
  abbrev pub bytes_read : FileLines D g → Text
  bytes_read l = g.seen l.disk

  abbrev pub len_of : FileLines D g → ℕ
  len_of l = l.len

  abbrev pub place_of : FileLines D g → ℕ
  place_of l = l.start + l.next

  abbrev pub read_so_far : FileLines D g → Text
  read_so_far l = take (l.start + l.next) (g.seen l.disk)

  -- the line that was read last
  abbrev pub line_read : FileLines D g → Text
  line_read l = take (l.to - l.from) (drop l.from l.buffer.items)

  -- how far the buffer goes
  abbrev pub buffered_to : FileLines D g → ℕ
  buffered_to l = l.start + length l.buffer.items
