use Rattle.std.proofs.Common.{◌≡◌, ◌∙◌, sym, rules, tests}
use Rattle.std.specs.List.{list_all}
use Rattle.std.proofs.lemmas.Iterator.{YieldsList-from_slice}
use Rattle.std.proofs.lemmas.Iterator.Search.{all_from_yields_List}
use Rattle.std.proofs.lemmas.List.Folds.{list_all-map}
use Rattle.lost_spec.specs.Mapping.{is_uri}
use Rattle.lost_mapping.proofs.uris.each_is_uri.Goals as goal

pub returns : goal.returns
returns g c =
    let uri_of = g.T.PartItems.uri_of in
    let direct : c.all.result ≡ list_all (λ uri. is_uri (uri_of uri)) c.args.uris.now = all_from_yields_List (λ uri. is_uri (uri_of uri)) _ _ c.all.result c.all.ensures.ran (YieldsList-from_slice c.args.uris.now (cc)) (λ x b q k. search (rules, tests)) in
    direct ∙ sym (list_all-map is_uri uri_of c.args.uris.now)
