use Rattle.std.proofs.Common.{rules}
use Rattle.lost_writing.proofs.FoundLemmas.{no_items_in, only_mapping_is, when_some}
use Rattle.lost_writing.proofs.writing.found_line.only_mapping.Goals as goal

pub returns-in-ByReference : goal.returns-in-ByReference
returns-in-ByReference c = when_some c.reference_text.result (λ text is. only_mapping_is c.args.found.now text.now (no_items_in _ (search rules)) c.in-ByReference.is is) c.reference_text.ensures
