use Rattle.lost_desk.proofs.DeskLemmas.{counts}
use Rattle.lost_desk.proofs.desk.Desk.pending.Goals as goal

pub overflow_sub-result : goal.overflow_sub-result
overflow_sub-result c =
    let d = c.self.inside in
    (counts d.copies d.queue.items d.ahead d.front d.head d.digest c.self.invariant c.edition.result c.len.result c.shown.result.now c.edition.ensures c.len.ensures c.shown.ensures).0

pub returns : goal.returns
returns c =
    let d = c.self.inside in
    rw (← c.self.view_is) (counts d.copies d.queue.items d.ahead d.front d.head d.digest c.self.invariant c.edition.result c.len.result c.shown.result.now c.edition.ensures c.len.ensures c.shown.ensures).1
