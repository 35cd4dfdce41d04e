use Rattle.std.proofs.Common.{◌≡◌}
use Rattle.lost_journal.specs.Found.{IsCleanReading, file_of, progress_of, found_body}
use Rattle.lost_keeping.proofs.recovery.Recovery.read_behind.Given as goal

abbrev pub invariant-loop-line : goal.invariant-loop-line
invariant-loop-line g l = record {
  clean : IsCleanReading l.reading → IsCleanReading l.initial.reading;
  progress : progress_of l.reading ≡ progress_of l.initial.reading;
  body : found_body l.reading ≡ found_body l.initial.reading;
  file : file_of l.reading ≡ file_of l.initial.reading;
}
