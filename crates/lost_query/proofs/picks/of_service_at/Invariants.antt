use Rattle.std.proofs.Common.{◌≡◌, take, filter}
use Rattle.lost_spec.specs.Service.{same_service}
use Rattle.lost_query.specs.Finding.{at_positions, all_found}
use Rattle.lost_query.proofs.picks.of_service_at.Given as goal

abbrev pub invariant-loop-position : goal.invariant-loop-position
invariant-loop-position g l =
    all_found l.found ≡ filter (λ m. same_service m.service l.service) (at_positions (g.H.Holdings.book l.holdings).mappings (take l.position-index l.positions))
