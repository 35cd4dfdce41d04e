use Rattle.std.proofs.Common.{◌≡◌, length, sym, ◌∙◌, ap, arith}
use Rattle.lost_desk.specs.States.{published_version, pending_of}
use Rattle.lost_desk.proofs.DeskLemmas.{counted, counted_all, none_pending, nothing_is, publish_keeps, committed_is}
use Rattle.lost_desk.proofs.desk.Desk.commit.Goals as goal

pub returns-then-edition-len-clause-committed : goal.returns-then-edition-len-clause-committed
returns-then-edition-len-clause-committed g c =
    let d = c.self.inside in
    let long : length c.shown.result.now.front.list ≡ length d.copies.shown.front.list = ap (λ v. length v.front.list) c.shown.ensures in
    let whole : d.ahead.edits ≡ length d.copies.shown.front.list = omega (arith, c.edition-edition.ensures, c.len.ensures, long) in
    rw (← c.self.view_is) (nothing_is d.copies d.queue.items d.ahead d.front d.head d.digest c.self.invariant (none_pending d.copies d.queue.items d.ahead d.front d.head d.digest c.self.invariant whole))

pub announce-requires-clause-edition : goal.announce-requires-clause-edition
announce-requires-clause-edition g c = let d = c.self.inside in c.edition-edition.ensures ∙ counted_all d.copies d.queue.items d.ahead d.front d.head d.digest c.self.invariant

pub returns-then-not-announce-clause-nothing_pending : goal.returns-then-not-announce-clause-nothing_pending
returns-then-not-announce-clause-nothing_pending g c = λ none.
    let d = c.self.inside in
    let long : length c.shown.result.now.front.list ≡ length d.copies.shown.front.list = ap (λ v. length v.front.list) c.shown.ensures in
    let zero : length (pending_of d.copies d.queue.items) ≡ 0 = ap length (rw (← c.self.view_is) at none) in
    absurd (omega (arith, c.edition-edition.ensures, c.len.ensures, long, zero, counted d.copies d.queue.items d.ahead d.front d.head d.digest c.self.invariant))

pub returns-in_default-clause-nothing_pending : goal.returns-in_default-clause-nothing_pending
returns-in_default-clause-nothing_pending g c = λ none.
    let d = c.self.inside in
    let long : length c.shown.result.now.front.list ≡ length d.copies.shown.front.list = ap (λ v. length v.front.list) c.shown.ensures in
    let zero : length (pending_of d.copies d.queue.items) ≡ 0 = ap length (rw (← c.self.view_is) at none) in
    absurd (omega (arith, c.edition-edition.ensures, c.len.ensures, long, zero, counted d.copies d.queue.items d.ahead d.front d.head d.digest c.self.invariant))

pub invariant_of-self-2 : goal.invariant_of-self-2
invariant_of-self-2 g c =
    let d = c.self.inside in
    let shown = c.in-Ok.ensures.0 ∙ ap (published_version d.copies) c.if-not-announce.ensures in
    rw c.if-not-announce.ensures (publish_keeps d.copies d.queue.items d.ahead d.front d.head d.digest c.self.invariant c.publish_all.new.copies c.publish_all.new.queue.items shown c.in-Ok.ensures.1 c.digest-self-inside.result c.digest-self-inside.ensures)

pub returns-clause-committed : goal.returns-clause-committed
returns-clause-committed g c =
    let d = c.self.inside in
    let shown = c.in-Ok.ensures.0 ∙ ap (published_version d.copies) c.if-not-announce.ensures in
    rw (← c.self.view_is) (committed_is d.copies d.queue.items d.ahead d.front d.head d.digest c.self.invariant c.publish_all.new.copies c.publish_all.new.queue.items shown c.in-Ok.ensures.1)

pub returns-clause-edition : goal.returns-clause-edition
returns-clause-edition g c =
    let d = c.self.inside in
    let shown = c.in-Ok.ensures.0 ∙ ap (published_version d.copies) c.if-not-announce.ensures in
    c.edition-edition.ensures ∙ (counted_all d.copies d.queue.items d.ahead d.front d.head d.digest c.self.invariant ∙ ap length (sym (ap (λ v. v.front.list) shown)))
