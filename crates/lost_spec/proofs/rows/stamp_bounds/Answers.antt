use Rattle.std.proofs.Common.{refl}
use Rattle.lost_spec.specs.Examples.{all_words}
use Rattle.lost_spec.proofs.rows.stamp_bounds.Goals as goal

pub returns : goal.returns
unfolding all_words
returns c = (refl, refl)
