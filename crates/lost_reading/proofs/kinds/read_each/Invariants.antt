use Rattle.std.proofs.Common.{◌≡◌, Some, map, take}
use Rattle.serde_json.specs.View.{items_view}
use Rattle.lost_reading.specs.Members.{each_of}
use Rattle.lost_reading.proofs.kinds.read_each.Given as goal

abbrev pub invariant-loop-item : goal.invariant-loop-item
invariant-loop-item g l = each_of g.T.Kind.meant (items_view (take l.item-index l.items)) ≡ Some (map g.T.Kind.seen l.list.items)
