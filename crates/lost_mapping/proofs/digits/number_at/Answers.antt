use Rattle.std.proofs.Common.{rules}
use Rattle.lost_mapping.specs.StampText.{number_in}
use Rattle.lost_mapping.proofs.digits.number_at.Goals as goal

pub returns : goal.returns
unfolding number_in
returns c = search rules
