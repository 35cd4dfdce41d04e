use Rattle.std.proofs.Common.{◌≡◌, ◌<◌, ◌≤◌, ℕ, None}
use Rattle.lost_connections.specs.Clients.{late_at}
use Rattle.lost_connections.proofs.clients.Clients.next_late.Given as goal

abbrev pub invariant-loop-key : goal.invariant-loop-key
invariant-loop-key g l = (key : ℕ) → l.from ≤ key → key < l.key → late_at l.self l.limits l.now key ≡ None
