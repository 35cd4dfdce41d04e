use Rattle.std.proofs.Common.{◌≡◌, ◌∙◌, sym, rules, tests}
use Rattle.std.specs.List.{list_any}
use Rattle.std.proofs.lemmas.Iterator.{YieldsList-from_slice}
use Rattle.std.proofs.lemmas.Iterator.Search.{any_from_yields_List}
use Rattle.lost_spec.specs.Text.{Text, same_text}
use Rattle.lost_profile.proofs.TokenLemmas.{list_any-map}
use Rattle.lost_profile.proofs.token_set.is_among.Goals as goal

pub returns : goal.returns
returns g c =
    let text_of = g.T.TokenTexts.text_of in
    let text : Text = c.args.text.now in
    let direct : c.any.result ≡ list_any (λ item. same_text text (text_of item)) c.args.items.now = any_from_yields_List (λ item. same_text text (text_of item)) _ _ c.any.result c.any.ensures.ran (YieldsList-from_slice c.args.items.now (cc)) (λ x b q k. search (rules, tests)) in
    direct ∙ sym (list_any-map (same_text text) text_of c.args.items.now)
