use Rattle.std.proofs.Common.{length, ◌-◌}
use Rattle.lost_desks.proofs.map_reply.write_map.Given as goal

abbrev pub decreases-loop-from : goal.decreases-loop-from
decreases-loop-from g l = length l.book.mappings - l.from
