use Rattle.std.proofs.Common.{◌≡◌, ◌-◌}
use Rattle.lost_journal.specs.Lines.{IsCleanLines, bytes_read, read_so_far, buffered_to, len_of}
use Rattle.lost_journal.proofs.file_lines.FileLines.read_line.Given as goal

abbrev pub invariant-loop-self : goal.invariant-loop-self
invariant-loop-self g l = record {
  clean : IsCleanLines l.self → IsCleanLines l.initial.self;
  seen : bytes_read l.self ≡ bytes_read l.initial.self;
  read : IsCleanLines l.self → read_so_far l.self ≡ read_so_far l.initial.self;
}

abbrev pub decreases-loop-self : goal.decreases-loop-self
decreases-loop-self g l = len_of l.self - buffered_to l.self
