use Rattle.lost_spec.proofs.EditLemmas.{replacement_keeps_identities_lem}
use Rattle.lost_spec.proofs.laws.book.replacement_keeps_identities.Goals as goal

pub returns : goal.returns
returns c = replacement_keeps_identities_lem
