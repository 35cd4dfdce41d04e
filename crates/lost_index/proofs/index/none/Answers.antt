-- The part in front of the first is empty.
use Rattle.std.proofs.Common.{refl}
use Rattle.lost_index.proofs.index.none.Goals as goal

pub returns : goal.returns
returns g c = refl
