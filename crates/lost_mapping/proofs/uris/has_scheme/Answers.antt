use Rattle.std.proofs.Common.{◌≡◌, ◌∙◌, Bool, map, sym, rules, tests}
use Rattle.std.specs.List.{list_any}
use Rattle.std.proofs.lemmas.Iterator.{YieldsList-from_slice}
use Rattle.std.proofs.lemmas.Iterator.Search.{any_from_yields_List}
use Rattle.lost_spec.specs.Text.{Text, same_text, lowered}
use Rattle.lost_spec.specs.Mapping.{scheme_of}
use Rattle.lost_mapping.proofs.MappedLemmas.{list_any-map}
use Rattle.lost_mapping.proofs.uris.has_scheme.Goals as goal

pub returns : goal.returns
returns g c =
    let uri_of = g.T.PartItems.uri_of in
    let is_same : Text → Bool = same_text (lowered c.args.scheme.now) in
    let direct : c.any.result ≡ list_any (λ uri. is_same (lowered (scheme_of (uri_of uri)))) c.args.uris.now = any_from_yields_List (λ uri. is_same (lowered (scheme_of (uri_of uri)))) _ _ c.any.result c.any.ensures.ran (YieldsList-from_slice c.args.uris.now (cc)) (λ x b q k. search (rules, tests)) in
    direct
    ∙ (sym (list_any-map (λ uri. is_same (lowered (scheme_of uri))) uri_of c.args.uris.now)
    ∙ sym (list_any-map is_same (λ uri. lowered (scheme_of uri)) (map uri_of c.args.uris.now)))
