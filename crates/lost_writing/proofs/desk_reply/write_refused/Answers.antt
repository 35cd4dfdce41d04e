use Rattle.std.proofs.Common.{length, ap, arith}
use Rattle.lost_writing.proofs.desk_reply.write_refused.Goals as goal

pub push-requires-4 : goal.push-requires-4
push-requires-4 c = omega (arith, ap length c.new-text.ensures, ap length c.as_bytes.ensures.value)
