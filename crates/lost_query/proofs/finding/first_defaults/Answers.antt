use Rattle.std.proofs.Common.{◌≡◌, ◌∙◌, [], sym, ap, arith}
use Rattle.lost_spec.specs.Find.{defaults}
use Rattle.lost_query.specs.Finding.{chain_service, mappings_of, all_found}
use Rattle.lost_query.proofs.ChainLemmas.{cons_nonempty, first_with-passed, first_with-found}
use Rattle.lost_query.proofs.finding.first_defaults.Goals as goal

pub returns-in-Some : goal.returns-in-Some
returns-in-Some g c =
    let ask = defaults (g.H.Holdings.book c.args.holdings.now) c.args.moment.now in
    let u = chain_service c.in_ok-candidate.candidate in
    let found = c.in-Some.found in
    let has : mappings_of found ≡ ask u = ap all_found (sym c.in-Some.is) ∙ c.in_ok-found.ensures ∙ ap ask c.service.ensures in
    first_with-found ask c.args.service.now c.loop-depth.depth u (mappings_of found) c.loop-depth-test.true c.in_ok-candidate.ensures has _ c.loop-depth.invariant.left (cons_nonempty found.first found.rest.items)

pub loop-depth-preserved-in_default : goal.loop-depth-preserved-in_default
loop-depth-preserved-in_default g c =
    let ask = defaults (g.H.Holdings.book c.args.holdings.now) c.args.moment.now in
    let u = chain_service c.in_ok-candidate.candidate in
    let found = all_found c.in_ok-found.field-0 in
    let has : found ≡ ask u = c.in_ok-found.ensures ∙ ap ask c.service.ensures in
    let none : found ≡ [] = ap all_found c.in_default.is in
    record {
      within = omega arith;
      left = first_with-passed ask c.args.service.now c.loop-depth.depth u found c.loop-depth-test.true c.in_ok-candidate.ensures has _ c.loop-depth.invariant.left none;
    }

pub loop-depth-preserved : goal.loop-depth-preserved
loop-depth-preserved g c =
    let ask = defaults (g.H.Holdings.book c.args.holdings.now) c.args.moment.now in
    let u = chain_service c.in_ok-candidate.candidate in
    let found = all_found c.in_ok-found.field-0 in
    let has : found ≡ ask u = c.in_ok-found.ensures ∙ ap ask c.service.ensures in
    let none : found ≡ [] = ap all_found c.in_default.is in
    record {
      within = omega arith;
      left = first_with-passed ask c.args.service.now c.loop-depth.depth u found c.loop-depth-test.true c.in_ok-candidate.ensures has _ c.loop-depth.invariant.left none;
    }
