-- What contracts see of a walk over a journal. (Own.)
use Rattle.sqlite_disk.specs.declared.Disk.{Ghosts}
use Rattle.lost_journal.specs.declared.reading.Reading.{Reading}
use Rattle.lost_keeping.specs.declared.walk.Walk.{Walk}

module _ {D : Type 0} {g : Ghosts D} where
  -- what reads it
  abbrev pub reading_of : Walk D g → Reading D g
  reading_of w = w.reading
