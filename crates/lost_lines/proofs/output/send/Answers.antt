use Rattle.std.proofs.Common.{rules}
use Rattle.std.proofs.lemmas.List.{take_rest}
use Rattle.lost_lines.proofs.SendLemmas.{Writes-more}
use Rattle.lost_lines.proofs.output.send.Goals as goal

pub loop-rest-preserved : goal.loop-rest-preserved
loop-rest-preserved g c = record {
  written = rw take_rest (Writes-more _ _ _ _ _ _ c.loop-rest.invariant.written c.in_ok-count.ensures.ok);
  flag = search rules;
}
