use Rattle.std.proofs.Common.{◌≡◌}
use Rattle.lost_worker.specs.Desking.{IsSameDesk}
use Rattle.lost_journal.specs.Found.{IsCleanReading, file_of, read_of}
use Rattle.lost_keeping.specs.Recovery.{IsReadTo}
use Rattle.lost_keeping.specs.Walks.{reading_of}
use Rattle.lost_keeping.proofs.walk.Walk.next_commit.Given as goal

abbrev pub invariant-loop-line : goal.invariant-loop-line
invariant-loop-line g l = record {
  read : IsCleanReading (reading_of l.self) → IsReadTo (read_of (reading_of l.initial.self)) l.initial.desk → IsReadTo (read_of (reading_of l.self)) l.desk;
  clean : IsCleanReading (reading_of l.self) → IsCleanReading (reading_of l.initial.self);
  file : file_of (reading_of l.self) ≡ file_of (reading_of l.initial.self);
  same : IsSameDesk l.initial.desk l.desk;
}
