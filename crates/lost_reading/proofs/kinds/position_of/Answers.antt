use Rattle.std.proofs.Common.{sym, arith}
use Rattle.lost_reading.proofs.EachLemmas.{two_of-below, two_of-above}
use Rattle.lost_reading.proofs.kinds.position_of.Goals as goal

pub returns-in_default : goal.returns-in_default
returns-in_default c = sym (two_of-below c.args.items.now (omega arith))

pub returns-in_default-2 : goal.returns-in_default-2
returns-in_default-2 c = sym (two_of-above c.args.items.now (omega arith))
