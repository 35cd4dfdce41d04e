-- The last row tells.
use Rattle.std.proofs.Common.{sym}
use Rattle.lost_index.proofs.RisingLemmas.{last_read}
use Rattle.lost_index.proofs.chunks.ends_below.Goals as goal

pub returns-in-Some : goal.returns-in-Some
returns-in-Some g c = last_read c.args.number c.args.chunk.now c.in-Some.row.now (sym c.in-Some.ensures.value)
