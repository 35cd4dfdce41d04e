use Rattle.std.proofs.Common.{refl}
use Rattle.lost_civic.specs.Element.{element_name}
use Rattle.lost_civicdex.proofs.rows.named_elements.Goals as goal

pub returns : goal.returns
unfolding element_name
returns c = (refl, refl, refl)
