use Rattle.std.proofs.Common.{ap, ◌∙◌}
use Rattle.lost_spec.specs.Text.{same_text}
use Rattle.lost_spec.specs.Service.{service_text}
use Rattle.lost_urn.proofs.OrderLemmas.{same_service_by_text}
use Rattle.lost_urn.proofs.traits.ServiceUrnPartialEq.eq.Goals as goal

pub returns : goal.returns
returns c =
    c.eq.ensures
    ∙ ap (λ t. same_text t c.text-2.result.now) c.text.ensures.text
    ∙ ap (same_text (service_text c.args.self.now)) c.text-2.ensures.text
    ∙ same_service_by_text c.args.self.now c.args.other.now c.text.ensures.well_formed c.text-2.ensures.well_formed
