use Rattle.std.proofs.Common.{List, ap, subst}
use mathlib.Core.List.{IsPrefix}
use Rattle.lost_spec.specs.Book.{Edit}
use Rattle.lost_history.proofs.Beginnings.{longer_begins}
use Rattle.lost_history.proofs.front.Front.meet.Goals as goal

pub returns-clause-this : goal.returns-clause-this
returns-clause-this c =
    let both = c.learn.new.self.log in
    let this : IsPrefix c.self.inside.seen.log both = subst (λ (l : List Edit). IsPrefix l both) (ap (λ s. s.log) c.again-both.ensures) c.learn.ensures.2 in
    rw (← c.self.view_is, ← c.other.view_is) (longer_begins c.self.inside.seen.log c.other.inside.seen.log both this c.learn.ensures.3).0

pub returns-clause-that : goal.returns-clause-that
returns-clause-that c =
    let both = c.learn.new.self.log in
    let this : IsPrefix c.self.inside.seen.log both = subst (λ (l : List Edit). IsPrefix l both) (ap (λ s. s.log) c.again-both.ensures) c.learn.ensures.2 in
    rw (← c.self.view_is, ← c.other.view_is) (longer_begins c.self.inside.seen.log c.other.inside.seen.log both this c.learn.ensures.3).1
