use Rattle.std.proofs.Common.{◌≡◌}
use Rattle.lost_tables.specs.Chunks.{elements, LacksAt}
use Rattle.lost_tables.proofs.chunks.close_up.Given as goal

abbrev pub invariant-loop-lacking : goal.invariant-loop-lacking
invariant-loop-lacking g l = LacksAt l.lacking l.chunks × (elements l.chunks ≡ elements l.fn.chunks)
