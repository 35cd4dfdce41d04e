use Rattle.std.proofs.Common.{◌≡◌, ◌∙◌, string_bytes, rules, tests}
use Rattle.std.specs.List.{list_any}
use Rattle.std.proofs.lemmas.Iterator.{YieldsList-from_slice}
use Rattle.std.proofs.lemmas.Iterator.Search.{any_from_yields_List}
use Rattle.lost_spec.specs.Civic.{is_known}
use Rattle.lost_civic.proofs.PairLemmas.{list_any-names}
use Rattle.lost_civic.proofs.refusals.knows_some_name.Goals as goal

pub returns : goal.returns
returns c =
    let direct : c.any.result ≡ list_any (λ pair. is_known (string_bytes pair.0)) c.args.pairs.now = any_from_yields_List (λ pair. is_known (string_bytes pair.0)) _ _ c.any.result c.any.ensures.ran (YieldsList-from_slice c.args.pairs.now (cc)) (λ x b q k. search (rules, tests)) in
    direct ∙ list_any-names is_known c.args.pairs.now
