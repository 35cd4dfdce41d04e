-- Where the search misses, the number does not stand there.
use Rattle.std.proofs.Common.{nat_cmp, subst}
use Rattle.std.specs.Prelude.{Err}
use Rattle.std.specs.List.Sorted.{IsBinarySearchResult}
use Rattle.lost_tables.proofs.RisingLemmas.{lacks-searched}
use Rattle.lost_tables.proofs.cell.Cell.remove.Goals as goal

pub returns-in_default-clause-gone : goal.returns-in_default-clause-gone
returns-in_default-clause-gone c =
    rw (← c.self.view_is)
    (lacks-searched c.args.number c.in_default.field-0 c.self.inside.numbers.items c.self.invariant
    (subst (λ l. IsBinarySearchResult (λ y. nat_cmp y c.args.number) l (Err c.in_default.field-0)) c.deref.ensures c.in_default.ensures.position))
