use Rattle.lost_worker.specs.Desking.{IsSameDesk}
use Rattle.lost_offline.proofs.compacting.Copying.write_mappings.Given as goal

abbrev pub invariant-loop-position : goal.invariant-loop-position
invariant-loop-position g l = IsSameDesk l.initial.fresh l.fresh
