use Rattle.std.proofs.Common.{◌≡◌}
use Rattle.lost_journal.specs.Found.{IsCleanReading, file_of, read_of, progress_of}
use Rattle.lost_journal.specs.declared.reading.Progress.TheVariants.{Passing}
use Rattle.lost_worker.specs.Desking.{IsSameDesk}
use Rattle.lost_keeping.specs.Recovery.{IsReadTo}
use Rattle.lost_keeping.proofs.recovery.Recovery.read_kept.Given as goal

abbrev pub invariant-loop-line : goal.invariant-loop-line
invariant-loop-line g l = record {
  passing : progress_of l.reading ≡ Passing;
  clean : IsCleanReading l.reading → IsCleanReading l.initial.reading;
  file : file_of l.reading ≡ file_of l.initial.reading;
  same : IsSameDesk l.initial.desk l.desk;
  read : IsCleanReading l.reading → IsReadTo (read_of l.initial.reading) l.initial.desk → IsReadTo (read_of l.reading) l.desk;
}
