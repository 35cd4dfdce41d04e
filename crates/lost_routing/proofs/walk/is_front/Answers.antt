-- Services are the same where their texts are.
use Rattle.std.proofs.Common.{take, ap, ◌∙◌}
use Rattle.lost_spec.specs.Text.{same_text}
use Rattle.lost_spec.specs.Service.{same_service, service_text}
use Rattle.lost_urn.proofs.OrderLemmas.{same_service_by_text}
use Rattle.lost_routing.proofs.walk.is_front.Goals as goal

pub returns : goal.returns
returns c =
    c.eq.ensures
    ∙ ap (λ t. same_text t c.front.result.now) c.text.ensures.text
    ∙ ap (same_text (service_text c.service.result.now)) c.front.ensures.text
    ∙ same_service_by_text c.service.result.now (take c.args.labels c.args.service.now) c.text.ensures.well_formed c.front.ensures.well_formed
    ∙ ap (λ s. same_service s (take c.args.labels c.args.service.now)) c.service.ensures
