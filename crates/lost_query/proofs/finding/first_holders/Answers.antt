use Rattle.std.proofs.Common.{◌≡◌, ◌<◌, ◌∙◌, [], All, length, sym, ap, subst, arith}
use Rattle.lost_spec.specs.Find.{at}
use Rattle.lost_location.specs.Place.{place_of}
use Rattle.lost_query.specs.Finding.{at_positions, of_chain, chain_service, mappings_of, all_found}
use Rattle.lost_query.proofs.ChainLemmas.{at-from_chain, cons_nonempty, first_with-passed, first_with-found}
use Rattle.lost_query.proofs.finding.first_holders.Goals as goal

pub of_service_at-requires : goal.of_service_at-requires
of_service_at-requires g c =
    subst (All (λ position. position < length (g.H.Holdings.book c.args.holdings.now).mappings)) (sym c.deref.ensures) c.in_ok-positions.ensures.within

pub returns-in-Some : goal.returns-in-Some
returns-in-Some g c =
    let b = g.H.Holdings.book c.args.holdings.now in
    let t = c.args.moment.now in
    let l = place_of c.args.place.now in
    let u = chain_service c.in_ok-candidate.candidate in
    let found = c.in-Some.found in
    let has : mappings_of found ≡ at b t l u = ap all_found (sym c.in-Some.is) ∙ c.in_ok-found.ensures ∙ at-from_chain b t l c.args.service.now c.service.result.now c.loop-depth.depth c.deref.result.now c.loop-depth-test.true c.loop-depth.invariant.within (c.service.ensures ∙ c.in_ok-candidate.ensures) (ap (λ ps. of_chain c.args.service.now (at_positions b.mappings ps)) c.deref.ensures ∙ c.in_ok-positions.ensures.of_chain) ∙ ap (at b t l) c.service.ensures in
    first_with-found (at b t l) c.args.service.now c.loop-depth.depth u (mappings_of found) c.loop-depth-test.true c.in_ok-candidate.ensures has _ c.loop-depth.invariant.left (cons_nonempty found.first found.rest.items)

pub loop-depth-preserved-in_default : goal.loop-depth-preserved-in_default
loop-depth-preserved-in_default g c =
    let b = g.H.Holdings.book c.args.holdings.now in
    let t = c.args.moment.now in
    let l = place_of c.args.place.now in
    let u = chain_service c.in_ok-candidate.candidate in
    let found = all_found c.in_ok-found.field-0 in
    let has : found ≡ at b t l u = c.in_ok-found.ensures ∙ at-from_chain b t l c.args.service.now c.service.result.now c.loop-depth.depth c.deref.result.now c.loop-depth-test.true c.loop-depth.invariant.within (c.service.ensures ∙ c.in_ok-candidate.ensures) (ap (λ ps. of_chain c.args.service.now (at_positions b.mappings ps)) c.deref.ensures ∙ c.in_ok-positions.ensures.of_chain) ∙ ap (at b t l) c.service.ensures in
    let none : found ≡ [] = ap all_found c.in_default.is in
    record {
      within = omega arith;
      left = first_with-passed (at b t l) c.args.service.now c.loop-depth.depth u found c.loop-depth-test.true c.in_ok-candidate.ensures has _ c.loop-depth.invariant.left none;
    }

pub loop-depth-preserved : goal.loop-depth-preserved
loop-depth-preserved g c =
    let b = g.H.Holdings.book c.args.holdings.now in
    let t = c.args.moment.now in
    let l = place_of c.args.place.now in
    let u = chain_service c.in_ok-candidate.candidate in
    let found = all_found c.in_ok-found.field-0 in
    let has : found ≡ at b t l u = c.in_ok-found.ensures ∙ at-from_chain b t l c.args.service.now c.service.result.now c.loop-depth.depth c.deref.result.now c.loop-depth-test.true c.loop-depth.invariant.within (c.service.ensures ∙ c.in_ok-candidate.ensures) (ap (λ ps. of_chain c.args.service.now (at_positions b.mappings ps)) c.deref.ensures ∙ c.in_ok-positions.ensures.of_chain) ∙ ap (at b t l) c.service.ensures in
    let none : found ≡ [] = ap all_found c.in_default.is in
    record {
      within = omega arith;
      left = first_with-passed (at b t l) c.args.service.now c.loop-depth.depth u found c.loop-depth-test.true c.in_ok-candidate.ensures has _ c.loop-depth.invariant.left none;
    }
