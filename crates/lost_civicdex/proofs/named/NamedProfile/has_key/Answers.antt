use Rattle.std.proofs.Common.{refl, sym, ◌∙◌}
use Rattle.lost_civic.specs.Element.{element_name}
use Rattle.lost_civic.specs.contracts.elements.ElementPartialEq.TheImpl.{eq-value}
use Rattle.lost_civic.proofs.Present.{is_some-text}
use Rattle.lost_civicdex.proofs.HasLemmas.{named-has}
use Rattle.lost_civicdex.proofs.named.NamedProfile.has_key.Goals as goal

pub returns : goal.returns
returns c =
    c.names.ensures ∙ sym (is_some-text (element_name c.args.key.now) c.args.region.now) ∙ named-has eq-value.it refl c.args.region.now c.args.key.now
