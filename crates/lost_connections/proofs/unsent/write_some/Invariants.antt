use Rattle.std.proofs.Common.{◌≡◌, true, length}
use Rattle.lost_connections.specs.Noted.{inner_of, has_failed}
use Rattle.lost_connections.specs.Sent.{Sent}
use Rattle.lost_connections.proofs.unsent.write_some.Given as goal

abbrev pub invariant-loop-output : goal.invariant-loop-output
invariant-loop-output g l = record {
  sent : Sent (g.O.Write.contents (inner_of l.initial.output)) (g.O.Write.contents (inner_of l.output)) l.bytes l.rest;
  flag : has_failed l.initial.output ≡ true → has_failed l.output ≡ true;
}

abbrev pub decreases-loop-output : goal.decreases-loop-output
decreases-loop-output g l = length l.rest
