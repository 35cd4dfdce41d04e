-- A list without repetitions has the same numbers, and rises.
use Rattle.lost_tables.proofs.RisingLemmas.{same-dedup, rising-dedup}
use Rattle.lost_tables.proofs.cell.Cell.drop_repeated.Goals as goal

pub returns-then-self-len : goal.returns-then-self-len
returns-then-self-len c = λ other.
    rw (← c.self.view_is)
    (same-dedup other c.self.inside.numbers.items c.dedup.new.self.items c.dedup.ensures.items)

pub invariant_of-self : goal.invariant_of-self
invariant_of-self c =
    rising-dedup c.self.inside.numbers.items c.dedup.new.self.items
    c.dedup.ensures.items c.self.invariant
