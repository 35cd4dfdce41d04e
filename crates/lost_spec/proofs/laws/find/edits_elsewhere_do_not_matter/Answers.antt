use Rattle.lost_spec.proofs.EditionLemmas.{edits_elsewhere_do_not_matter_lem}
use Rattle.lost_spec.proofs.laws.find.edits_elsewhere_do_not_matter.Goals as goal

pub returns : goal.returns
returns c = edits_elsewhere_do_not_matter_lem
