use Rattle.std.proofs.Common.{◌≡◌, length}
use Rattle.lost_lines.specs.Watched.{inner_of, has_failed}
use Rattle.lost_lines.proofs.SendLemmas.{Writes}
use Rattle.lost_lines.proofs.output.send.Given as goal

abbrev pub invariant-loop-rest : goal.invariant-loop-rest
invariant-loop-rest g l = record {
  written : Writes (g.W.Write.contents (inner_of l.initial.output)) (g.W.Write.contents (inner_of l.output)) l.bytes l.rest;
  flag : has_failed l.output ≡ has_failed l.initial.output;
}

abbrev pub decreases-loop-rest : goal.decreases-loop-rest
decreases-loop-rest g l = length l.rest
