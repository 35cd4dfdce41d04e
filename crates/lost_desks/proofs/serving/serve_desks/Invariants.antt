use Rattle.lost_worker.specs.Desking.{IsSameDesk}
use Rattle.lost_desks.specs.Kept.{StaysKept}
use Rattle.lost_desks.proofs.serving.serve_desks.Given as goal

abbrev pub invariant-loop-turn : goal.invariant-loop-turn
invariant-loop-turn g l = record {
  kept : StaysKept l.initial.keeper l.initial.desk l.keeper l.desk;
  same : IsSameDesk l.initial.desk l.desk;
}
