use Rattle.lost_worker.specs.Desking.{IsSameDesk}
use Rattle.lost_offline.proofs.compacting.Copying.put_lines.Given as goal

abbrev pub invariant-loop-line : goal.invariant-loop-line
invariant-loop-line g l = IsSameDesk l.initial.fresh l.fresh
