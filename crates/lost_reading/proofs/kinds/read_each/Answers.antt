use Rattle.std.proofs.Common.{◌≡◌, [], ◌∷◌, ◌++◌, sym, ap, ◌∙◌}
use Rattle.std.proofs.lemmas.Result.{err_from_is_err_and}
use Rattle.std.proofs.lemmas.List.{map-append}
use Rattle.serde_json.specs.View.{view}
use Rattle.lost_reading.proofs.EachLemmas.{Refuses-whole, each_of-more, each_of-None}
use Rattle.lost_reading.proofs.kinds.read_each.Goals as goal

pub returns-in_err-thing : goal.returns-in_err-thing
returns-in_err-thing g c =
    let kind = g.T.Kind.meant in
    let items = c.args.items.now in
    let seen = err_from_is_err_and c.from_residual-in_err-thing.result c.from_residual-in_err-thing.ensures.1 in
    rw (seen.1, seen.2)
    (Refuses-whole _ (kind (view c.item-item.result)) _ (λ none. each_of-None kind items c.loop-item.item-index c.item-item.result c.loop-item-test.true (ap (λ value. kind (view value)) (sym c.item-item.is) ∙ none)) c.in_err-thing.ensures)

pub loop-item-preserved : goal.loop-item-preserved
loop-item-preserved g c =
    let kind = g.T.Kind.meant in
    let pushed : c.push.new.self.items ≡ c.loop-item.list.items ++ c.in_ok-thing.thing ∷ [] = c.in_ok-push.ensures.items in
    let now = rw c.item-item.is at c.in_ok-thing.ensures in
    rw (pushed, map-append) (each_of-more kind c.args.items.now c.loop-item.item-index c.item-item.result _ (g.T.Kind.seen c.in_ok-thing.thing) c.loop-item-test.true c.loop-item.invariant now)
