use Rattle.std.proofs.Common.{◌∙◌, ap, is_some}
use Rattle.lost_civic.specs.Element.{element_name}
use Rattle.lost_civic.proofs.Present.{is_some-text}
use Rattle.lost_query.proofs.PatternLemmas.{is_some-copied}
use Rattle.lost_query.proofs.validation.elements.stands_in.Goals as goal

pub returns : goal.returns
returns c =
    c.is_some.ensures ∙ is_some-copied c.text.result ∙ ap (λ o. is_some o) c.text.ensures ∙ is_some-text (element_name c.args.element) c.args.address.now
