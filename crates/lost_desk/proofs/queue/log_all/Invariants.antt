use Rattle.std.proofs.Common.{◌≡◌, length}
use Rattle.lost_desk.specs.States.{pending_of}
use Rattle.lost_desk.proofs.queue.log_all.Given as goal

abbrev pub invariant-loop-copies : goal.invariant-loop-copies
invariant-loop-copies l = (l.copies.shown ≡ l.fn.copies.shown) × (pending_of l.copies l.queue.items ≡ pending_of l.fn.copies l.fn.queue.items)

abbrev pub decreases-loop-copies : goal.decreases-loop-copies
decreases-loop-copies l = length l.queue.items
