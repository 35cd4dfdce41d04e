use Rattle.std.proofs.Common.{◌≡◌, ◌∙◌, is_some, rules, tests}
use Rattle.std.specs.List.{list_all}
use Rattle.std.proofs.lemmas.Iterator.{YieldsList-from_slice}
use Rattle.std.proofs.lemmas.Iterator.Search.{all_from_yields_List}
use Rattle.serde_json.specs.View.{view}
use Rattle.lost_reading.proofs.FitLemmas.{list_all-fits}
use Rattle.lost_reading.proofs.fits.each_fits.Goals as goal

pub returns : goal.returns
returns g c =
    let kind = g.T.Fits.meant in
    let direct : c.all.result ≡ list_all (λ value. is_some (kind (view value))) c.args.items.now = all_from_yields_List (λ value. is_some (kind (view value))) _ _ c.all.result c.all.ensures.ran (YieldsList-from_slice c.args.items.now (cc)) (λ x b q k. search (rules, tests)) in
    direct ∙ list_all-fits kind c.args.items.now
