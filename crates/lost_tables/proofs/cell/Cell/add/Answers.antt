-- Where the search hits, the number stands there already; where it misses, the number goes between those below and those above.
use Rattle.std.proofs.Common.{nat_eq, nat_cmp, subst}
use Rattle.std.specs.Prelude.{Err}
use Rattle.std.specs.List.Sorted.{IsBinarySearchResult}
use Rattle.lost_tables.proofs.LookupLemmas.{stands-insert, stands_at}
use Rattle.lost_tables.proofs.RisingLemmas.{rising-searched, stands-inserted}
use Rattle.lost_tables.proofs.cell.Cell.add.Goals as goal

pub returns-in_ok-insert-clause-keeps : goal.returns-in_ok-insert-clause-keeps
returns-in_ok-insert-clause-keeps c = λ other stands.
    rw c.in_ok-insert.ensures.ok
    (stands-insert (nat_eq other) c.self.inside.numbers.items c.in-Err.position c.args.number (rw c.self.view_is stands))

pub returns-in_default-clause-added : goal.returns-in_default-clause-added
returns-in_default-clause-added c =
    rw (← c.self.view_is, ← c.deref-2.ensures)
    (stands_at c.args.number c.deref-2.result.now c.in_default.field-0 c.in_default.ensures.bound c.in_default.ensures.ok)

pub invariant_of-self-in_ok-insert : goal.invariant_of-self-in_ok-insert
invariant_of-self-in_ok-insert c =
    rw c.in_ok-insert.ensures.ok
    (rising-searched c.args.number c.in-Err.position c.self.inside.numbers.items c.self.invariant
    (subst (λ l. IsBinarySearchResult (λ y. nat_cmp y c.args.number) l (Err c.in-Err.position)) c.deref-2.ensures c.in-Err.ensures.position))

pub returns-in_ok-insert-clause-added : goal.returns-in_ok-insert-clause-added
returns-in_ok-insert-clause-added c = rw c.in_ok-insert.ensures.ok (stands-inserted c.args.number c.in-Err.position c.self.inside.numbers.items)
