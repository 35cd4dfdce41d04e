use Rattle.std.proofs.Common.{◌≡◌, ◌∙◌, Bool, Bor, rules, tests}
use Rattle.std.specs.List.{list_any}
use Rattle.std.proofs.lemmas.Iterator.{YieldsList-from_slice}
use Rattle.std.proofs.lemmas.Iterator.Search.{any_from_yields_List}
use Rattle.lost_spec.specs.Civic.{Pairs}
use Rattle.lost_spec.specs.Validation.{names_it}
use Rattle.lost_civic.specs.Element.{element_name}
use Rattle.lost_mapping.proofs.FoldLemmas.{list_any-map}
use Rattle.lost_query.proofs.validation.patterns.is_named.Goals as goal

pub returns : goal.returns
returns c =
    let test : Bor Pairs → Bool = λ pattern. names_it (element_name c.args.element) pattern.now in
    let direct : c.any.result ≡ list_any test c.args.patterns.now = any_from_yields_List test _ _ c.any.result c.any.ensures.ran (YieldsList-from_slice c.args.patterns.now (cc)) (λ x b q k. search (rules, tests)) in
    direct ∙ list_any-map (λ (p : Bor Pairs). p.now) (names_it (element_name c.args.element)) c.args.patterns.now
