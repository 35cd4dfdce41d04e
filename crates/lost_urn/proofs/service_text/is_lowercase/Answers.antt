-- Each byte is its own lower case.
use Rattle.std.proofs.Common.{sym, ap, ◌∙◌, eqb}
use Rattle.std.specs.List.{list_all}
use Rattle.std.specs.Char.{to_ascii_lowercase}
use Rattle.lost_urn.proofs.LowerLemmas.{lowered_as_it_is}
use Rattle.lost_urn.proofs.service_text.is_lowercase.Goals as goal

pub returns : goal.returns
returns c = λ own. lowered_as_it_is c.args.text.now (ap (list_all (λ b. eqb (to_ascii_lowercase b) b)) (sym c.as_bytes.ensures.value) ∙ sym c.are_own_lowercase.ensures ∙ own)
