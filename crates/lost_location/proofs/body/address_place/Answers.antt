use Rattle.std.proofs.Common.{◌≡◌, ◌∙◌, Some, option_map, sym}
use Rattle.std.proofs.lemmas.Result.{IfOk-weaker}
use denote.Enum.Bare.{same_false}
use Rattle.lost_spec.specs.declared.faults.CivicError.TheVariants.{Memory}
use Rattle.lost_spec.specs.contracts.faults.CivicError.{the_type}
use Rattle.lost_spec.specs.Place.{AtAddress, address_place}
use Rattle.lost_civic.specs.Pairs.{seen_pairs}
use Rattle.lost_location.specs.Place.{place_of}
use Rattle.lost_location.proofs.PlaceLemmas.{address_placed, address_unplaced}
use Rattle.lost_location.proofs.body.address_place.Goals as goal

pub returns-in-Ok-clause-place : goal.returns-in-Ok-clause-place
returns-in-Ok-clause-place c =
    let placed = address_placed (seen_pairs c.args.pairs.now.items) _ c.in-Ok.address c.in_ok-copied_pairs.ensures c.in-Ok.ensures.pairs c.in-Ok.ensures.lawful in
    IfOk-weaker c.boxed_address.result (λ place. option_map place_of place ≡ Some (AtAddress c.in-Ok.address)) (λ place. option_map place_of place ≡ address_place (seen_pairs c.args.pairs.now.items)) (λ place is. is ∙ placed) c.boxed_address.ensures

pub returns-else-eq-clause-place : goal.returns-else-eq-clause-place
returns-else-eq-clause-place c =
    let fault = c.in-Err.fault in
    let differ = same_false the_type fault Memory (sym c.eq.ensures ∙ c.if-eq.false) in
    address_unplaced (seen_pairs c.args.pairs.now.items) _ fault c.in_ok-copied_pairs.ensures (c.in-Err.ensures.refused differ)
