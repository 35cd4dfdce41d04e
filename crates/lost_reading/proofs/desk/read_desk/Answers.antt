use Rattle.std.proofs.Common.{refl}
use Rattle.lost_reading.proofs.DeskLemmas.{other-from_line, order-from_line, refused-from_line}
use Rattle.lost_reading.proofs.desk.read_desk.Goals as goal

pub returns-in-Ok-clause-other : goal.returns-in-Ok-clause-other
returns-in-Ok-clause-other c = other-from_line c.read_tree_order.result _ _ c.in-Ok.ensures.tells.1 c.read_tree_order.ensures

pub returns-in-Ok-clause-order : goal.returns-in-Ok-clause-order
returns-in-Ok-clause-order c = order-from_line c.read_tree_order.result _ _ c.in-Ok.ensures.tells.1 c.read_tree_order.ensures

pub returns-in-Ok-clause-refused : goal.returns-in-Ok-clause-refused
returns-in-Ok-clause-refused c = refused-from_line c.read_tree_order.result _ _ c.in-Ok.ensures.tells.1 c.read_tree_order.ensures

pub returns-in-Err-BadRequest-clause-other : goal.returns-in-Err-BadRequest-clause-other
returns-in-Err-BadRequest-clause-other c = λ _. (c.in-Err-BadRequest.ensures.neither (rw c.in-Err-BadRequest.field-0-is refl)).1
