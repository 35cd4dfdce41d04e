use Rattle.std.proofs.Common.{◌≡◌}
use Rattle.test_desks.proofs.desk.answer_lines.Given as goal

abbrev pub invariant-loop-line : goal.invariant-loop-line
invariant-loop-line g l = l.reader.opening ≡ l.desk.opening
