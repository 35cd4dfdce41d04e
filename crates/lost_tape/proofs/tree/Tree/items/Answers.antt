use Rattle.std.proofs.Common.{◌≡◌, Some, subst}
use Rattle.serde_json.specs.Data.{Items}
use Rattle.serde_json.specs.Find.{as_array}
use Rattle.lost_tape.specs.Tapes.{data_of, HoldsItems}
use Rattle.lost_tape.proofs.PartLemmas.{items_held}
use Rattle.lost_tape.proofs.tree.Tree.items.Goals as goal

pub invariant_of-result : goal.invariant_of-result
invariant_of-result c = let held = items_held _ c.in_ok-items.items c.self.invariant c.in_ok-items.ensures in (held.0, held.2)

pub returns : goal.returns
returns c =
    subst (λ ts. (items : Items) × (as_array (data_of ts) ≡ Some items) × HoldsItems c.in_ok-items.items items) c.self.view_is
    (items_held _ c.in_ok-items.items c.self.invariant c.in_ok-items.ensures)
