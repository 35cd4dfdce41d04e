use Rattle.std.proofs.Common.{◌≡◌, ◌∙◌, ◌||◌, Bool, nat_lt, length, sym, rules, tests}
use Rattle.std.specs.List.{list_any}
use Rattle.std.proofs.lemmas.Iterator.{YieldsList-from_slice}
use Rattle.std.proofs.lemmas.Iterator.Search.{any_from_yields_List}
use Rattle.lost_spec.specs.Mapping.{DisplayName}
use Rattle.lost_mapping.proofs.MappedLemmas.{list_any-map}
use Rattle.lost_mapping.proofs.shape.has_long_name.Goals as goal

pub returns : goal.returns
returns g c =
    let name_of = g.T.PartItems.display_name_of in
    let is_long : DisplayName → Bool = λ name. nat_lt 1024 (length name.lang) || nat_lt 1024 (length name.text) in
    let direct : c.any.result ≡ list_any (λ name. is_long (name_of name)) c.args.names.now = any_from_yields_List (λ name. is_long (name_of name)) _ _ c.any.result c.any.ensures.ran (YieldsList-from_slice c.args.names.now (cc)) (λ x b q k. search (rules, tests)) in
    direct ∙ sym (list_any-map is_long name_of c.args.names.now)
