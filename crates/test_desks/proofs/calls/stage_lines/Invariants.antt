use Rattle.std.proofs.Common.{◌≡◌}
use Rattle.test_desks.proofs.calls.stage_lines.Given as goal

abbrev pub invariant-loop-line : goal.invariant-loop-line
invariant-loop-line l = l.desk.opening ≡ l.initial.desk.opening
