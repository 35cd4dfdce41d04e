use Rattle.std.proofs.Common.{◌≡◌, ◌+◌, ◌-◌, length, ap, ◌∙◌, arith}
use Rattle.lost_desk.specs.States.{pending_of}
use Rattle.lost_desk.proofs.DeskLemmas.{counted, none_pending, none_dropped, drop_keeps, dropped_is}
use Rattle.lost_desk.proofs.desk.Desk.drop_pending.Goals as goal

pub overflow_sub-pending : goal.overflow_sub-pending
overflow_sub-pending c =
    let d = c.self.inside in
    let long : length c.shown.result.now.front.list ≡ length d.copies.shown.front.list = ap (λ v. length v.front.list) c.shown.ensures in
    omega (arith, long, c.len-published.ensures, c.edition.ensures, counted d.copies d.queue.items d.ahead d.front d.head d.digest c.self.invariant)

pub returns-then-pending-eq0-clause-dropped : goal.returns-then-pending-eq0-clause-dropped
returns-then-pending-eq0-clause-dropped c =
    let d = c.self.inside in
    let long : length c.shown.result.now.front.list ≡ length d.copies.shown.front.list = ap (λ v. length v.front.list) c.shown.ensures in
    let whole : d.ahead.edits ≡ length d.copies.shown.front.list =
    omega (arith, long, c.len-published.ensures, c.edition.ensures, c.if-pending-eq0.true, counted d.copies d.queue.items d.ahead d.front d.head d.digest c.self.invariant) in
    rw (← c.self.view_is) (none_dropped d.copies d.queue.items d.ahead d.front d.head d.digest c.self.invariant (none_pending d.copies d.queue.items d.ahead d.front d.head d.digest c.self.invariant whole))

pub returns-then-len-published-clause-nothing_pending : goal.returns-then-len-published-clause-nothing_pending
returns-then-len-published-clause-nothing_pending c = λ none.
    let d = c.self.inside in
    let long : length c.shown.result.now.front.list ≡ length d.copies.shown.front.list = ap (λ v. length v.front.list) c.shown.ensures in
    let zero : length (pending_of d.copies d.queue.items) ≡ 0 = ap length (rw (← c.self.view_is) at none) in
    let nothing : c.edition.result - c.len-published.result ≡ 0 =
    omega (arith, long, c.len-published.ensures, c.edition.ensures, zero, counted d.copies d.queue.items d.ahead d.front d.head d.digest c.self.invariant) in
    absurd (c.if-pending-eq0.false nothing)

pub invariant_of-self : goal.invariant_of-self
invariant_of-self c =
    let d = c.self.inside in
    let long : length c.shown.result.now.front.list ≡ length d.copies.shown.front.list = ap (λ v. length v.front.list) c.shown.ensures in
    let queued : d.ahead.edits ≡ length d.copies.shown.front.list + length d.queue.items =
    omega (arith, long, c.len-published.ensures, c.edition.ensures, c.len-else-len-published.ensures, c.if-len-pending.false, counted d.copies d.queue.items d.ahead d.front d.head d.digest c.self.invariant) in
    let reached : length d.front.list ≡ length d.copies.shown.front.list = omega (arith, long, c.len-published.ensures, c.len.ensures, c.if-len-published.false) in
    drop_keeps d.copies d.queue.items d.ahead d.front d.head d.digest c.self.invariant queued reached c.put-2.new.place.items (ap (λ q. q.items) c.put-2.ensures ∙ c.new.ensures.items)
    c.put.new.place (c.put.ensures ∙ (c.of.ensures ∙ (c.in_ok-copy.ensures ∙ ap (λ v. v.book) c.shown-2.ensures)))

pub returns-clause-dropped : goal.returns-clause-dropped
returns-clause-dropped c =
    let d = c.self.inside in
    let long : length c.shown.result.now.front.list ≡ length d.copies.shown.front.list = ap (λ v. length v.front.list) c.shown.ensures in
    let queued : d.ahead.edits ≡ length d.copies.shown.front.list + length d.queue.items =
    omega (arith, long, c.len-published.ensures, c.edition.ensures, c.len-else-len-published.ensures, c.if-len-pending.false, counted d.copies d.queue.items d.ahead d.front d.head d.digest c.self.invariant) in
    rw (← c.self.view_is) (dropped_is d.copies d.queue.items d.ahead d.front d.head d.digest c.self.invariant queued c.put-2.new.place.items (ap (λ q. q.items) c.put-2.ensures ∙ c.new.ensures.items))
