use Rattle.std.proofs.lemmas.List.{take_rest}
use Rattle.lost_connections.proofs.SentLemmas.{Sent-more}
use Rattle.lost_connections.proofs.unsent.write_some.Goals as goal

pub loop-output-preserved : goal.loop-output-preserved
loop-output-preserved g c = record {
  sent = rw take_rest (Sent-more _ _ _ _ _ _ c.loop-output.invariant.sent c.in-Ok.ensures.bytes);
  flag = λ was. c.in-Ok.ensures.noted.stays (c.loop-output.invariant.flag was);
}
