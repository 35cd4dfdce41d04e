use Rattle.std.proofs.Common.{rules}
use Rattle.lost_spec.specs.Decimal.{decimal}
use Rattle.lost_spec.proofs.rows.no_decimals.Goals as goal

pub returns : goal.returns
unfolding decimal
returns c = search rules
