-- What contracts see of a journal that is being read. (Own.)
use Rattle.std.specs.Prelude.{◌≡◌, ℕ, length, Bool, IsTrue}
use Rattle.lost_spec.specs.Text.{Text}
use Rattle.sqlite_disk.specs.declared.Disk.{Ghosts}
use Rattle.lost_journal.specs.declared.reading.Reading.{Reading}
use Rattle.lost_journal.specs.declared.reading.Progress.{Progress}
use Rattle.lost_journal.specs.declared.reading.Progress.TheVariants.{Passing, Found, Broken}
use Rattle.lost_journal.specs.Lines.{IsCleanLines, bytes_read, read_so_far, line_read}
use Rattle.lost_journal.specs.State.{body_in}

module _ {D : Type 0} {g : Ghosts D} where
  -- its disk has told the truth so far
  abbrev pub IsCleanReading : Reading D g → Type 0
  IsCleanReading r = IsCleanLines r.lines

  -- what the file has, what was read of it, and the line that was read last
  abbrev pub file_of : Reading D g → Text
  file_of r = bytes_read r.lines

  abbrev pub read_of : Reading D g → Text
  read_of r = read_so_far r.lines

  abbrev pub line_of : Reading D g → Text
  line_of r = line_read r.lines

  -- how far it came
  abbrev pub progress_of : Reading D g → Progress
  progress_of r = r.progress

  -- what is kept, once the first closed gate was found
  abbrev pub found_body : Reading D g → Text
  found_body r = body_in (bytes_read r.lines) r.kept
