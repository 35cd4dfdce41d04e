use Rattle.std.proofs.Common.{ap, ◌∙◌}
use Rattle.std.specs.Ordering.{nat_cmp}
use Rattle.std.specs.Cmp.Lexicographic.{slice_cmp}
use Rattle.lost_spec.specs.Service.{service_text}
use Rattle.lost_urn.proofs.OrderLemmas.{service_cmp_by_text}
use Rattle.lost_urn.proofs.traits.ServiceUrnOrd.cmp.Goals as goal

pub returns-clause-order : goal.returns-clause-order
returns-clause-order c =
    c.cmp.ensures
    ∙ ap (λ t. slice_cmp nat_cmp t c.text-2.result.now) c.text.ensures.text
    ∙ ap (slice_cmp nat_cmp (service_text c.args.self.now)) c.text-2.ensures.text
    ∙ service_cmp_by_text c.args.self.now c.args.other.now c.text.ensures.well_formed c.text-2.ensures.well_formed
