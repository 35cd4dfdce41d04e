-- What the connections of a worker end as, where one of them is lent to be changed.
use Rattle.std.specs.Prelude.{ℕ, Option}
use Rattle.std.specs.Borrow.{LendsIf, Fml, RattleType, MutBor}
use Rattle.slab.specs.Slab.{with_value}
use Rattle.lost_connections.specs.declared.clients.Clients.{Clients}
use Rattle.lost_connections.specs.declared.clients.Connected.{Connected}
use Rattle.lost_connections.specs.contracts.clients.Clients.{the_row as clients_row}
use Rattle.lost_connections.specs.contracts.clients.Connected.{the_row as connected_row}

-- the connections with another under a key
abbrev pub with_connected : {I O T : Type 0} → Clients I O T → ℕ → Connected I O T → Clients I O T
with_connected c key connected = record c { connected = with_value c.connected key connected }

-- the connection under the key ends as what was left behind the reference, and all others stay; where there is none, all stay
abbrev pub lends_connected : (I O T : RattleType) → MutBor (Clients I.Denot O.Denot T.Denot) → ℕ → Option (MutBor (Connected I.Denot O.Denot T.Denot)) → Fml
lends_connected I O T s key r = LendsIf (clients_row I O T) (connected_row I O T) s r (with_connected s.now key) s.now
