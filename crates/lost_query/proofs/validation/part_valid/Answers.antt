use Rattle.std.proofs.Common.{◌∙◌, Bor, map, filter, rules, tests}
use Rattle.lost_spec.specs.Civic.{Pairs}
use Rattle.lost_civic.specs.Element.{all_elements}
use Rattle.lost_query.specs.Judged.{stands_in, is_named, ValidatesNoOther}
use Rattle.lost_query.specs.Finding.{mappings_of}
use Rattle.lost_query.proofs.JudgedLemmas.{named_valid, named_others, no_other_valid}
use Rattle.lost_query.proofs.validation.part_valid.Goals as goal

pub returns-clause-valid : goal.returns-clause-valid
returns-clause-valid c =
    let matching = map (λ (p : Bor Pairs). p.now) c.in_ok-matching.matching.items in
    let parts = c.part.ensures.passing (is_named matching) (λ e r k. search (rules, tests)) in
    let same = named_valid (mappings_of c.args.found.now) c.args.address.now matching c.in_ok-matching.ensures.matching c.deref.result.now (filter (stands_in c.args.address.now) all_elements) (c.deref.ensures.value ∙ c.in_ok-elements.ensures) in
    search rules

pub returns-clause-others : goal.returns-clause-others
returns-clause-others c =
    let matching = map (λ (p : Bor Pairs). p.now) c.in_ok-matching.matching.items in
    let parts = c.part.ensures.failing (is_named matching) (λ e r k. search (rules, tests)) in
    let same = named_others (mappings_of c.args.found.now) c.args.address.now matching c.in_ok-matching.ensures.matching c.deref.result.now (filter (stands_in c.args.address.now) all_elements) (c.deref.ensures.value ∙ c.in_ok-elements.ensures) in
    search rules

pub returns-clause-unknown : goal.returns-clause-unknown
returns-clause-unknown c =
    let matching = map (λ (p : Bor Pairs). p.now) c.in_ok-matching.matching.items in
    let none : ValidatesNoOther (mappings_of c.args.found.now) c.args.address.now = no_other_valid (mappings_of c.args.found.now) c.args.address.now matching c.in_ok-matching.ensures.matching c.in_ok-matching.ensures.lawful in
    search rules
