use Rattle.lost_desk.proofs.DeskLemmas.{pending-logged}
use Rattle.lost_desk.proofs.queue.log_first.Goals as goal

pub returns-in-Ok-clause-pending : goal.returns-in-Ok-clause-pending
returns-in-Ok-clause-pending c = rw (c.in-Ok.ensures, c.in-Some.ensures.items) (pending-logged c.args.copies.now c.pop_front.new.self.items c.in-Some.edit)
