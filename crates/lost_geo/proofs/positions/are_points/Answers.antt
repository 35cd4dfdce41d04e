use Rattle.std.proofs.Common.{◌≡◌, ◌∙◌, Bool, ℤ, is_none, sym, rules, tests}
use Rattle.std.specs.List.{list_all}
use Rattle.std.proofs.lemmas.Iterator.{YieldsList-from_slice}
use Rattle.std.proofs.lemmas.Iterator.Search.{all_from_yields_List}
use Rattle.std.proofs.lemmas.List.Folds.{list_all-map}
use Rattle.lost_spec.specs.Ring.{point_fault}
use Rattle.lost_geo.proofs.positions.are_points.Goals as goal

pub returns : goal.returns
returns g c =
    let position_of = g.T.Positions.position_of in
    let passes : ℤ × ℤ → Bool = λ position. is_none (point_fault position.0 position.1) in
    let direct : c.all.result ≡ list_all (λ item. passes (position_of item)) c.args.items.now = all_from_yields_List (λ item. passes (position_of item)) _ _ c.all.result c.all.ensures.ran (YieldsList-from_slice c.args.items.now (cc)) (λ x b q k. search (rules, tests)) in
    direct ∙ sym (list_all-map passes position_of c.args.items.now)
