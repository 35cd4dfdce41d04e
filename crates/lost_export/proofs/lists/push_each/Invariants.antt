use Rattle.std.proofs.Common.{◌≡◌, ◌++◌, map, take}
use Rattle.serde_json.specs.View.{view}
use Rattle.lost_export.proofs.lists.push_each.Given as goal

abbrev pub invariant-loop-thing : goal.invariant-loop-thing
invariant-loop-thing g l = map view l.list.items ≡ map view l.initial.list.items ++ map g.T.Shown.shown (take l.thing-index l.things)
