use Rattle.std.proofs.Common.{◌≡◌, ◌∙◌, ap, sym, Bool}
use Rattle.lost_spec.specs.Mapping as spec
use Rattle.lost_spec.specs.Service.{Service, same_service}
use Rattle.lost_query.specs.Finding.{all_found}
use Rattle.lost_query.proofs.PickLemmas.{picks_more, picks_no_more}
use Rattle.lost_query.proofs.picks.of_service_at.Goals as goal
use Rattle.lost_query.proofs.picks.of_service_at.Goals.{then-eq+in_ok-clone+in_ok-add_found, else-eq}

pub loop-position-preserved : goal.loop-position-preserved
loop-position-preserved g c =
    let ms = (g.H.Holdings.book c.args.holdings.now).mappings in
    let m = c.mapping-mapping.result.now in
    let service : Service = c.args.service.now in
    let test : spec.Mapping → Bool = λ m. same_service m.service service in
    let tested : test m ≡ c.eq.result = ap (λ s. same_service s service) (sym c.service.ensures) ∙ sym c.eq.ensures in
    elim c.if-eq.branch [
      | then-eq+in_ok-clone+in_ok-add_found w ↦ rw w.found-is (picks_more ms c.args.positions.now c.loop-position.position-index _ m c.loop-position-test.true c.mapping-mapping.ensures test (all_found c.loop-position.found) c.loop-position.invariant _ w.in_ok-clone.field-0 w.in_ok-add_found.ensures w.in_ok-clone.ensures (tested ∙ w.if-eq.true))
      | else-eq w ↦ rw w.found-is (picks_no_more ms c.args.positions.now c.loop-position.position-index _ m c.loop-position-test.true c.mapping-mapping.ensures test (all_found c.loop-position.found) c.loop-position.invariant (tested ∙ w.if-eq.false))
    ]
