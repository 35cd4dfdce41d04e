use Rattle.std.proofs.Common.{◌≡◌, ◌∙◌, string_bytes, rules, tests}
use Rattle.std.specs.List.{list_all}
use Rattle.std.proofs.lemmas.Iterator.{YieldsList-from_slice}
use Rattle.std.proofs.lemmas.Iterator.Search.{all_from_yields_List}
use Rattle.lost_spec.specs.Civic.{is_known}
use Rattle.lost_civic.proofs.PairLemmas.{list_all-names}
use Rattle.lost_civic.proofs.refusals.knows_each_name.Goals as goal

pub returns : goal.returns
returns c =
    let direct : c.all.result ≡ list_all (λ pair. is_known (string_bytes pair.0)) c.args.pairs.now = all_from_yields_List (λ pair. is_known (string_bytes pair.0)) _ _ c.all.result c.all.ensures.ran (YieldsList-from_slice c.args.pairs.now (cc)) (λ x b q k. search (rules, tests)) in
    direct ∙ list_all-names is_known c.args.pairs.now
