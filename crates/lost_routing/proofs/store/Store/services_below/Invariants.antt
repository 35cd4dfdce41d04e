-- The services of the first rows were added.
use Rattle.std.specs.Option.{option_copied}
use Rattle.lost_tables.specs.Lookup.{service_rows}
use Rattle.lost_routing.proofs.ServiceLemmas.{IsWalked}
use Rattle.lost_routing.proofs.store.Store.services_below.Given as goal

abbrev pub invariant-loop-row : goal.invariant-loop-row
invariant-loop-row l =
    IsWalked (option_copied l.above) l.moment l.self-inside.rows.numbers l.self-inside.rows.mappings (service_rows l.self-inside.tables) l.row l.children
