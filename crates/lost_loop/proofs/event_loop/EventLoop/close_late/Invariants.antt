use Rattle.std.proofs.Common.{◌≡◌, ◌-◌, ◌<◌, ℕ, IsSome}
use Rattle.lost_connections.specs.Clients.{connected_at}
use Rattle.lost_loop.specs.Swept.{IsSweptBelow}
use Rattle.lost_loop.proofs.event_loop.EventLoop.close_late.Given as goal

-- all keys below `from` were looked at, and no connection has a key of `bound` or more
abbrev pub invariant-loop-from : goal.invariant-loop-from
invariant-loop-from g l =
    IsSweptBelow l.service.limits l.initial.self.now l.initial.self.clients l.self.clients l.from
    × ((key : ℕ) → IsSome (connected_at l.initial.self.clients key) → key < l.bound) × (l.self.now ≡ l.initial.self.now)

abbrev pub decreases-loop-from : goal.decreases-loop-from
decreases-loop-from g l = l.bound - l.from
